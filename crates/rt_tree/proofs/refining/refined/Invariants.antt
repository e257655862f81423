use Rattle.std.proofs.Common.{length}
use Rattle.rt_tree.specs.Partitions.{AreCoarseClasses}
use Rattle.rt_tree.proofs.Coarse.{slack}
use Rattle.rt_tree.proofs.refining.refined.Given as goal

abbrev pub invariant-loop-class : goal.invariant-loop-class
invariant-loop-class l = AreCoarseClasses l.nodes l.class.items

-- some node's class gets a later name
abbrev pub decreases-loop-class : goal.decreases-loop-class
decreases-loop-class l = slack (length l.nodes) l.class.items
