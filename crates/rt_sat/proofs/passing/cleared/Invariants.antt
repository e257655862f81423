use Rattle.std.proofs.Common.{◌≡◌, length}
use Rattle.rt_sat.proofs.passing.cleared.Given as goal

abbrev pub invariant-loop-number : goal.invariant-loop-number
invariant-loop-number l = length l.flags.items ≡ length l.fn.flags.items
