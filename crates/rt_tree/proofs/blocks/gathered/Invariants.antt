use Rattle.std.proofs.Common.{◌≡◌, take}
use Rattle.rt_tree.specs.Inside.Splits.{led_to}
use Rattle.rt_tree.proofs.blocks.gathered.Given as goal

abbrev pub invariant-loop-item : goal.invariant-loop-item
invariant-loop-item l = l.led.items ≡ led_to l.into (take l.item-index l.items)
