use Rattle.std.proofs.Common.{◌≡◌, ℕ, ◌<◌, Some, slice_get}
use Rattle.rt_sat.proofs.family.class_count.Given as goal

abbrev pub invariant-loop-node : goal.invariant-loop-node
invariant-loop-node l = (i n : ℕ) → i < l.node-index → slice_get l.nodes i ≡ Some (Some n) → n < l.count
