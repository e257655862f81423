use Rattle.std.proofs.Common.{sym, subst}
use Rattle.rt_polar.specs.Index.{has}
use Rattle.rt_polar.specs.Inside.Places.{AreHeld}
use Rattle.rt_polar.proofs.Placing.{held_pushed}
use Rattle.rt_polar.proofs.places.Places.add_slot.Goals as goal

pub returns-clause-places : goal.returns-clause-places
returns-clause-places c =
    let old = c.args.self.now in
    subst (λ items. AreHeld items (has old.at) (has old.naming) (has old.defining) (has old.consuming)) (sym c.in_ok-push.ensures.items)
    (held_pushed old.slots.items (has old.at) (has old.naming) (has old.defining) (has old.consuming) c.requires)
