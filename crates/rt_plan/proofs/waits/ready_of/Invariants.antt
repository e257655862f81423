use Rattle.std.proofs.Common.{◌≡◌, ◌<◌, ◌==◌, ℕ, false, length, get_or}
use Rattle.rt_plan.proofs.waits.ready_of.Given as goal

abbrev pub invariant-loop-group : goal.invariant-loop-group
invariant-loop-group l = record {
  each : length l.ready ≡ length l.left;
  readies : (k : ℕ) → k < l.group → get_or l.ready k false ≡ (get_or l.left k 0 == 0);
}
