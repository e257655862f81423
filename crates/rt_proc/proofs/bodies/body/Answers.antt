use Rattle.std.proofs.Common.{List, Contains, ◌↔◌, subst}
use Rattle.std.proofs.lemmas.Result.{IfOk-weaker}
use Rattle.rt_link.specs.declared.place.Place.{Place}
use Rattle.rt_proc.proofs.bodies.body.Goals as goal

pub returns-clause-found : goal.returns-clause-found
returns-clause-found c =
    IfOk-weaker c.in_order.result _ _
    (λ body same p.
    let found : Contains body.items p ↔ Contains c.in_ok-found.found.items p = subst (λ (places : List Place). Contains body.items p ↔ Contains places p) c.deref.ensures.value (same p) in
    ((λ h. (c.in_ok-found.ensures p).0 (found.0 h)), λ h. found.1 ((c.in_ok-found.ensures p).1 h))
    )
    c.in_order.ensures.same
