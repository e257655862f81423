use Rattle.std.proofs.Common.{◌≡◌, ◌++◌, map, take}
use Rattle.rt_record.specs.Records.{moves, shape_line}
use Rattle.rt_record.specs.Slots.{numbers_from}
use Rattle.rt_record.proofs.parting.add_shapes.Given as goal

abbrev pub invariant-loop-line : goal.invariant-loop-line
invariant-loop-line l =
    l.left ≡ l.initial.left ++ map shape_line (moves (numbers_from l.fields.first l.fields.order.keys) (take l.line-index l.lines))
