use Rattle.rt_shape.proofs.Firsts.{IsGoing}
use Rattle.rt_shape.proofs.closing.steps_apart.Given as goal

abbrev pub invariant-loop-i : goal.invariant-loop-i
invariant-loop-i l = IsGoing l.tree l.class l.i l.first.entries
