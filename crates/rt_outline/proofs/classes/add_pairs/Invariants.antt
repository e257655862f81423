use Rattle.std.proofs.Common.{take}
use Rattle.rt_outline.specs.Together.{HasMorePairs, IsOpenTo}
use Rattle.rt_outline.proofs.classes.add_pairs.Given as goal

abbrev pub invariant-loop-arc : goal.invariant-loop-arc
invariant-loop-arc l = HasMorePairs l.node (IsOpenTo l.stands (take l.arc-index l.arcs)) l.fn.pairs.items l.pairs.items
