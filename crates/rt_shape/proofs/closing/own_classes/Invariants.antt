use Rattle.std.proofs.Common.{◌≡◌, ℕ, ◌<◌, length, slice_index}
use Rattle.rt_shape.proofs.closing.own_classes.Given as goal

abbrev pub invariant-loop-node : goal.invariant-loop-node
invariant-loop-node l = (length l.class.items ≡ l.node) × ((i : ℕ) → i < l.node → slice_index l.class.items i ≡ i)
