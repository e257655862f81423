use Rattle.std.proofs.Common.{◌∙◌}
use Rattle.rt_polar.specs.Index.{has}
use Rattle.rt_polar.proofs.Placing.{placed_step}
use Rattle.rt_polar.proofs.putting_away.place.Goals as goal

pub returns-clause-lines : goal.returns-clause-lines
returns-clause-lines c = λ lines tidy.
    let old = c.args.places.now in
    let new = c.settle.new.self in
    placed_step old.slots.items c.add_slot.new.self.slots.items new.slots.items c.in_ok-slot.slot lines c.args.line c.of.result (has old.at) (has new.at) c.requires.found c.in_ok-settle.ensures.places.found c.in_ok-slot.ensures.slots c.in_ok-slot.ensures.slot
    (c.of.ensures ∙ c.self_to_var.ensures) c.in_ok-settle.ensures.settles tidy
