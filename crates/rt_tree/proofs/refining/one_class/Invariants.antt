use Rattle.std.proofs.Common.{◌≡◌, ℕ, length, slice_index}
use Rattle.rt_tree.proofs.refining.one_class.Given as goal

abbrev pub invariant-loop : goal.invariant-loop
invariant-loop l = record {
  each : length l.class.items ≡ l.counter;
  one : (x : ℕ) → slice_index l.class.items x ≡ 0;
}
