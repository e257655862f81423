use Rattle.std.proofs.Common.{◌≡◌, length}
use Rattle.rt_sat.proofs.increments.with_named.Given as goal

abbrev pub invariant-loop-x : goal.invariant-loop-x
invariant-loop-x l = length l.flags.items ≡ length l.initial.flags.items
