use Rattle.rt_shape.proofs.Numbers.{AreNumbered}
use Rattle.rt_shape.proofs.quotient.numbered.Given as goal

abbrev pub invariant-loop-c : goal.invariant-loop-c
invariant-loop-c l = AreNumbered l.class l.c-index l.known.items l.numbers.items l.count
