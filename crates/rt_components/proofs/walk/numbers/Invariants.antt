use Rattle.std.proofs.Common.{◌≡◌, ℕ, ◌<◌, length, slice_index}
use Rattle.rt_components.specs.declared.walk.State.TheVariants.{InClass}
use Rattle.rt_components.specs.Inside.Walks.{state_of}
use Rattle.rt_components.proofs.walk.numbers.Given as goal

abbrev pub invariant-loop-node : goal.invariant-loop-node
invariant-loop-node l = record {
  each : length l.class.items ≡ l.node-index;
  same : (a g : ℕ) → a < l.node-index → state_of l.state a ≡ InClass g → slice_index l.class.items a ≡ g;
}
