use Rattle.std.proofs.Common.{◌≡◌, ℕ, [], cond, nat_lt, length, get_or}
use Rattle.rt_plan.specs.Inside.Boards.{times}
use Rattle.rt_plan.proofs.calls.callers_of.Given as goal

abbrev pub invariant-loop-group : goal.invariant-loop-group
invariant-loop-group l = record {
  each : length l.callers.items ≡ length l.callees;
  called : (g c : ℕ) → times g (get_or l.callers.items c []) ≡ cond (nat_lt g l.group) (times c (get_or l.callees g [])) 0;
}
