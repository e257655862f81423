use Rattle.std.proofs.Common.{◌≡◌, ℕ, List, None, get_or, ap, subst, ◌∙◌, arith}
use Rattle.std.specs.Map.{lookup}
use Rattle.rt_sat.specs.declared.state.State.{State}
use Rattle.rt_sat.specs.Reached.{key_of}
use Rattle.rt_sat.specs.Searches.{state_eq}
use Rattle.rt_sat.proofs.Places.{lookup_absent}
use Rattle.rt_sat.proofs.Searching.{differ}
use Rattle.rt_sat.proofs.reached.Reached.place.Goals as goal

pub returns-then-place-len-clause-none : goal.returns-then-place-len-clause-none
returns-then-place-len-clause-none c = λ e.
    let same : c.number_at-place.result ≡ get_or c.self.inside.places.items (key_of c.args.state) 0 =
    c.number_at-place.ensures ∙ ap (λ (xs : List ℕ). get_or xs c.key.result 0) c.deref.ensures.value ∙ ap (λ n. get_or c.self.inside.places.items n 0) c.key.ensures in
    subst (λ es. lookup (state_eq c.args.state) es ≡ None) c.self.view_is
    (lookup_absent c.self.inside.places.items c.self.inside.counts.items c.self.invariant c.args.state (λ h f. absurd (omega (arith, h, same, c.if-place-len.true))))

pub returns-then-ne-clause-none : goal.returns-then-ne-clause-none
returns-then-ne-clause-none c = λ e.
    let same : c.number_at-place.result ≡ get_or c.self.inside.places.items (key_of c.args.state) 0 =
    c.number_at-place.ensures ∙ ap (λ (xs : List ℕ). get_or xs c.key.result 0) c.deref.ensures.value ∙ ap (λ n. get_or c.self.inside.places.items n 0) c.key.ensures in
    subst (λ es. lookup (state_eq c.args.state) es ≡ None) c.self.view_is
    (lookup_absent c.self.inside.places.items c.self.inside.counts.items c.self.invariant c.args.state
    (λ h f. differ c.index.result.now.0 c.args.state c.ne.result c.ne.ensures c.if-ne.true (ap (λ (x : State × ℕ). x.0) c.index.ensures ∙ ap (λ n. (get_or c.self.inside.counts.items n c.index.result.now).0) same ∙ f c.index.result.now)))
