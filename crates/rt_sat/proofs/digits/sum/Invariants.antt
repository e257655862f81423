use Rattle.std.proofs.Common.{◌≡◌, ◌+◌, drop}
use Rattle.rt_sat.specs.Counts.{digit_of, value_of}
use Rattle.rt_sat.proofs.Binary.{value_onto}
use Rattle.rt_sat.proofs.digits.sum.Given as goal

abbrev pub invariant-loop-i : goal.invariant-loop-i
invariant-loop-i l =
    value_onto l.sum.items (digit_of l.carried + value_of (drop l.i l.a) + value_of (drop l.i l.b)) ≡ value_of l.a + value_of l.b + digit_of l.carry
