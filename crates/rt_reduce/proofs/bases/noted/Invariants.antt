use Rattle.rt_reduce.proofs.Noting.{AreFirstNoted}
use Rattle.rt_reduce.proofs.bases.noted.Given as goal

abbrev pub invariant-loop-i : goal.invariant-loop-i
invariant-loop-i l = AreFirstNoted l.i l.sides l.numbers l.bases.items
