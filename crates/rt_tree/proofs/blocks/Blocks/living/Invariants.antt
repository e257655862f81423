use Rattle.std.proofs.Common.{◌≡◌, take}
use Rattle.rt_tree.specs.Inside.Splits.{living_in}
use Rattle.rt_tree.proofs.blocks.Blocks.living.Given as goal

abbrev pub invariant-loop-item : goal.invariant-loop-item
invariant-loop-item l = l.living.items ≡ living_in l.self.class.items l.block (take l.item-index l.row)
