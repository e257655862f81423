use Rattle.rt_reduce.proofs.Apart.{AreJoinedTo}
use Rattle.rt_reduce.proofs.parting.joins.Given as goal

abbrev pub invariant-loop-i : goal.invariant-loop-i
invariant-loop-i l = AreJoinedTo l.lines l.flags l.joins.items l.i
