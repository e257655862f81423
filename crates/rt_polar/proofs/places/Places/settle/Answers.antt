use Rattle.indexmap.proofs.MapLemmas.{OnOk-map}
use Rattle.rt_lines.specs.declared.line.Line.{Line}
use Rattle.rt_polar.specs.Inside.Places.{Holds, Settles}
use Rattle.rt_polar.proofs.places.Places.settle.Goals as goal

pub returns-in-Some-clause-settles : goal.returns-in-Some-clause-settles
returns-in-Some-clause-settles c =
    let slots = c.args.self.now.slots.items in
    let new = c.settle_beside.new.self.slots.items in
    OnOk-map c.settle_beside.result ((l : Line) → Holds slots c.in-Some.other l → Settles slots c.args.slot l new) (Settles slots c.args.slot c.args.row new)
    (λ moved. moved c.args.row c.in-Some.ensures) c.settle_beside.ensures.settles
