use Rattle.rt_equals.specs.Comparing.{AreAsMarked}
use Rattle.rt_equals.proofs.agreeing.are_as_marked.Given as goal

abbrev pub invariant-loop-j : goal.invariant-loop-j
invariant-loop-j l = AreAsMarked l.outer l.inner l.j l.marks
