use Rattle.rt_sat.specs.Hints.{AreMore, IsStepOf}
use Rattle.rt_sat.proofs.hints.emit.Given as goal

abbrev pub invariant-loop-index : goal.invariant-loop-index
invariant-loop-index l = AreMore (IsStepOf l.members l.grid) l.fn.edges.items l.edges.items
