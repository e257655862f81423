use Rattle.std.proofs.Common.{◌≡◌, take}
use Rattle.std.specs.Prelude.{flat_map}
use Rattle.rt_ways.specs.Inside.Frames.{flattened_line}
use Rattle.rt_ways.proofs.nodes.flattened.Given as goal

abbrev pub invariant-loop-line : goal.invariant-loop-line
invariant-loop-line l = l.flat.items ≡ flat_map flattened_line (take l.line-index l.lines)
