use Rattle.std.proofs.Common.{◌≡◌, drop}
use Rattle.rt_sat.specs.Counts.{value_of}
use Rattle.rt_sat.proofs.digits.is_less.Given as goal

abbrev pub invariant-loop-i : goal.invariant-loop-i
invariant-loop-i l = value_of (drop l.i l.a) ≡ value_of (drop l.i l.b)

abbrev pub decreases-loop-i : goal.decreases-loop-i
decreases-loop-i l = l.i
