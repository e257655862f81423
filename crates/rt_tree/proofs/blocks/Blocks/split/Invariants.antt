use Rattle.std.proofs.Common.{◌≤◌, take, length}
use Rattle.rt_tree.specs.Inside.Splits.{AreBlocks, IsSplitTo}
use Rattle.rt_tree.proofs.blocks.Blocks.split.Given as goal

abbrev pub invariant-loop-item : goal.invariant-loop-item
invariant-loop-item l = record {
  blocks : AreBlocks (length l.fn.self.class.items) l.self.class.items l.self.members.items l.self.twin.items;
  split : IsSplitTo (take l.item-index l.led) l.led l.fn.self.class.items l.self.class.items l.self.twin.items l.count;
  long : l.count ≤ length l.self.members.items;
}
