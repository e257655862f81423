use Rattle.std.proofs.Common.{◌≡◌, take}
use Rattle.rt_plan.proofs.calls.copies_of.Given as goal

abbrev pub invariant-loop-called : goal.invariant-loop-called
invariant-loop-called l = l.copies.items ≡ take l.called-index l.callees
