use Rattle.std.proofs.Common.{◌≡◌, ℕ, ◌<◌, List, Some, length, get_or, sym, ap, subst, ◌∙◌}
use Rattle.std.specs.Map.{lookup}
use Rattle.rt_sat.specs.declared.state.State.{State}
use Rattle.rt_sat.specs.Searches.{state_eq}
use Rattle.rt_sat.proofs.Places.{lookup_at}
use Rattle.rt_sat.proofs.reached.Reached.get.Goals as goal

pub returns-in-Some : goal.returns-in-Some
returns-in-Some c =
    let at : (c.in-Some.place < length c.self.inside.counts.items) × ((e : State × ℕ) → (get_or c.self.inside.counts.items c.in-Some.place e).0 ≡ c.args.state) =
    subst (λ (xs : List (State × ℕ)). (c.in-Some.place < length xs) × ((e : State × ℕ) → (get_or xs c.in-Some.place e).0 ≡ c.args.state)) (sym c.self.view_is) c.in-Some.ensures.some in
    record {
      value = ap (λ (x : State × ℕ). Some x.1) c.index.ensures
          ∙ sym (lookup_at c.self.inside.places.items c.self.inside.counts.items c.self.invariant c.args.state c.in-Some.place at.0 c.index.result.now (at.1 c.index.result.now))
          ∙ ap (lookup (state_eq c.args.state)) c.self.view_is;
    }
