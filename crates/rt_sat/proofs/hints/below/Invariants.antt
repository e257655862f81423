use Rattle.std.proofs.Common.{◌≡◌, length}
use Rattle.rt_sat.proofs.hints.below.Given as goal

abbrev pub invariant-loop-number : goal.invariant-loop-number
invariant-loop-number l = length l.below.items ≡ l.number
