use Rattle.std.proofs.Common.{◌≡◌, ◌<◌, ℕ, [], length, get_or}
use Rattle.rt_plan.proofs.waits.lengths_of.Given as goal

abbrev pub invariant-loop-called : goal.invariant-loop-called
invariant-loop-called l = record {
  each : length l.left.items ≡ l.called-index;
  left : (g : ℕ) → g < l.called-index → get_or l.left.items g 0 ≡ length (get_or l.callees g []);
}
