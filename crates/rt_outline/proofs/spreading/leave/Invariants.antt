use Rattle.std.proofs.Common.{take}
use Rattle.rt_named.specs.Numbers.{IsLeft}
use Rattle.rt_outline.proofs.Following.{LeadsOf}
use Rattle.rt_outline.proofs.spreading.leave.Given as goal

abbrev pub invariant-loop-arc : goal.invariant-loop-arc
invariant-loop-arc l = IsLeft (LeadsOf l.stands l.pushed (take l.arc-index l.arc-items)) l.fn.found l.found
