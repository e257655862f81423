use Rattle.std.proofs.Common.{◌≡◌, take}
use Rattle.std.specs.List.{flat_map}
use Rattle.rt_lines.specs.Sides.{sides}
use Rattle.rt_reduce.proofs.merging.sides.Given as goal

abbrev pub invariant-loop-line : goal.invariant-loop-line
invariant-loop-line l = l.sides.items ≡ flat_map sides (take l.line-index l.lines)
