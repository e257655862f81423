use Rattle.std.proofs.Common.{All, length}
use Rattle.rt_tree.specs.Trees.{Nodes, IsNode}
use Rattle.rt_tree.specs.Inside.Splits.{AreBlocks, AreInto, AreTold, links_of}
use Rattle.rt_tree.proofs.splitting.split.Given as goal

abbrev pub invariant-loop : goal.invariant-loop
invariant-loop l = record {
  blocks : AreBlocks (length l.into) l.blocks.class.items l.blocks.members.items l.blocks.twin.items;
  told : (nodes : Nodes) → All (IsNode (length nodes)) nodes → AreInto (length nodes) (links_of nodes) l.into →
      AreTold nodes l.fn.class.items → AreTold nodes l.blocks.class.items;
}
