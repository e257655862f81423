use Rattle.std.proofs.Common.{◌≡◌, ◌+◌, ◌==◌, ℕ, [], cond, length, get_or, take}
use Rattle.rt_plan.specs.Inside.Boards.{times}
use Rattle.rt_plan.proofs.calls.push_caller.Given as goal

abbrev pub invariant-loop-callee : goal.invariant-loop-callee
invariant-loop-callee l = record {
  each : length l.callers.items ≡ length l.initial.callers.items;
  called : (g c : ℕ) → times g (get_or l.callers.items c []) ≡ times g (get_or l.initial.callers.items c []) + cond (g == l.group) (times c (take l.callee-index l.callees)) 0;
}
