use Rattle.std.proofs.Common.{◌≡◌, length}
use Rattle.rt_sat.proofs.marking.before.Given as goal

abbrev pub invariant-loop-i : goal.invariant-loop-i
invariant-loop-i l = length l.before.items ≡ l.shape.count
