use Rattle.std.proofs.Common.{take}
use Rattle.rt_equals.specs.Plain.{ArePlainPairs}
use Rattle.rt_equals.proofs.counted.plain_pairs.Given as goal

abbrev pub invariant-loop-edge : goal.invariant-loop-edge
invariant-loop-edge l = ArePlainPairs (take l.edge-index l.edges) l.pairs.items
