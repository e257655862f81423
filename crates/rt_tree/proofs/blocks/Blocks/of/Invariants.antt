use Rattle.rt_tree.proofs.Moving.{AreBlocksTo}
use Rattle.rt_tree.proofs.blocks.Blocks.of.Given as goal

abbrev pub invariant-loop-item : goal.invariant-loop-item
invariant-loop-item l = AreBlocksTo l.item l.class.items l.members.items l.twin.items
