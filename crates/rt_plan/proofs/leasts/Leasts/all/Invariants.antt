use Rattle.std.proofs.Common.{◌≡◌, ◌<◌, ℕ, length, get_or, true, false}
use Rattle.rt_plan.proofs.leasts.Leasts.all.Given as goal

abbrev pub invariant-loop-number : goal.invariant-loop-number
invariant-loop-number l = record {
  count : length l.leasts ≡ l.count;
  set : (k : ℕ) → k < l.number → get_or l.leasts k false ≡ true;
}
