use Rattle.std.proofs.Common.{◌≡◌, ℕ, ◌<◌, true, length, replicate}
use Rattle.rt_sure.specs.Fates.{fate_at}
use Rattle.rt_reduce.specs.Inside.Dropping.{IsSettled}
use Rattle.rt_reduce.proofs.staying.staying_beside.Given as goal

abbrev pub invariant-loop-i : goal.invariant-loop-i
invariant-loop-i l = record {
  flags : l.stands.items ≡ replicate (length l.lines) true;
  each : length l.now.items ≡ l.i;
  settled : (j : ℕ) → j < l.i → IsSettled l.order l.lines j (fate_at l.fates j) (fate_at l.now.items j);
}
