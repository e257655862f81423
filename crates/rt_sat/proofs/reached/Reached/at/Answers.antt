use Rattle.std.proofs.Common.{◌≡◌, ℕ, ◌<◌, List, Some, length, sym, ap, subst, ◌∙◌, arith}
use Rattle.std.specs.Map.{lookup}
use Rattle.rt_sat.specs.declared.state.State.{State}
use Rattle.rt_sat.specs.Searches.{state_eq}
use Rattle.rt_sat.proofs.Places.{lookup_at}
use Rattle.rt_sat.proofs.reached.Reached.at.Goals as goal

pub returns-clause-value : goal.returns-clause-value
returns-clause-value c =
    let h : c.args.index < length c.self.inside.counts.items = omega (arith, c.if-index-len.false) in
    subst (λ (xs : List (State × ℕ)). lookup (state_eq c.index.result.now.0) xs ≡ Some c.index.result.now.1) c.self.view_is
    (lookup_at c.self.inside.places.items c.self.inside.counts.items c.self.invariant c.index.result.now.0 c.args.index h c.index.result.now (ap (λ (x : State × ℕ). x.0) (sym c.index.ensures)) ∙ ap (λ (x : State × ℕ). Some x.1) (sym c.index.ensures))
