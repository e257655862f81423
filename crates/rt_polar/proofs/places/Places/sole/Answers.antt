use Rattle.std.proofs.Common.{◌<◌, length, sym, subst, ◌∙◌}
use Rattle.rt_polar.specs.Index.{has}
use Rattle.rt_polar.specs.Inside.Places.{Holds}
use Rattle.rt_polar.proofs.Slots.{held_by}
use Rattle.rt_polar.proofs.Soles.{sole_absent, sole_here, sole_none, uses_within}
use Rattle.rt_polar.proofs.places.Places.sole.Goals as goal

pub returns-in_default : goal.returns-in_default
returns-in_default c = sole_absent c.args.sign c.args.v c.args.self.now.slots.items (has c.uses-index.result.now) c.uses-index.ensures c.in_default.ensures

pub returns-in-Some-beside : goal.returns-in-Some-beside
returns-in-Some-beside c =
    let slots = c.args.self.now.slots.items in
    let f = c.in-Some.ensures in
    let g = c.in-Some-beside.ensures in
    let lt : c.in-Some.slot < length slots = uses_within c.args.sign c.args.v slots (has c.uses-index.result.now) c.in-Some.slot c.uses-index.ensures f.1 in
    let holds : Holds slots c.in-Some.slot c.in-Some-index.row = held_by slots c.in-Some.slot c.index.result.now c.in-Some-index.row lt (sym c.index.ensures ∙ c.in-Some-index.is) in
    (c.in-Some-beside.field-0.now, sole_here c.args.sign c.args.v c.in-Some-beside.field-0.now slots (has c.uses-index.result.now) c.in-Some.slot c.uses-index.ensures f.2 c.in-None.ensures g.0 (subst (Holds slots c.in-Some.slot) (sym c.line.ensures ∙ g.1) holds))

pub returns-in-None-beside : goal.returns-in-None-beside
returns-in-None-beside c =
    let slots = c.args.self.now.slots.items in
    let f = c.in-Some.ensures in
    let lt : c.in-Some.slot < length slots = uses_within c.args.sign c.args.v slots (has c.uses-index.result.now) c.in-Some.slot c.uses-index.ensures f.1 in
    let holds : Holds slots c.in-Some.slot c.in-Some-index.row = held_by slots c.in-Some.slot c.index.result.now c.in-Some-index.row lt (sym c.index.ensures ∙ c.in-Some-index.is) in
    sole_none c.args.sign c.args.v slots (has c.uses-index.result.now) c.in-Some.slot c.in-Some-index.row c.uses-index.ensures f.1 holds (λ z other e. c.in-None-beside.ensures z other (c.line.ensures ∙ e))
