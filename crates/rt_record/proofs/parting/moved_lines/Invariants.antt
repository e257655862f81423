use Rattle.std.proofs.Common.{◌≡◌, map, take}
use Rattle.rt_record.specs.Records.{moved_line}
use Rattle.rt_record.specs.Slots.{numbers_from}
use Rattle.rt_record.proofs.parting.moved_lines.Given as goal

abbrev pub invariant-loop-line : goal.invariant-loop-line
invariant-loop-line l = l.left ≡ map (moved_line (numbers_from l.fields.first l.fields.order.keys)) (take l.line-index l.lines)
