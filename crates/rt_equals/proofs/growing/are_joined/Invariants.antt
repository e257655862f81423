use Rattle.rt_equals.specs.Joined.{AreJoined}
use Rattle.rt_equals.proofs.growing.are_joined.Given as goal

abbrev pub invariant-loop-j : goal.invariant-loop-j
invariant-loop-j l = AreJoined l.growing l.numbers l.j l.marks
