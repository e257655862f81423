use Rattle.std.proofs.Common.{take}
use Rattle.rt_outline.specs.Together.{IsGraphOf}
use Rattle.rt_outline.proofs.grouping.graph_of.Given as goal

abbrev pub invariant-loop-pair : goal.invariant-loop-pair
invariant-loop-pair l = IsGraphOf (take l.pair-index l.pairs) l.count l.graph
