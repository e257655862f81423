use Rattle.rt_sat.specs.Hints.{AreMore, IsStepFrom}
use Rattle.rt_sat.proofs.hints.emit_from.Given as goal

abbrev pub invariant-loop-step : goal.invariant-loop-step
invariant-loop-step l = AreMore (IsStepFrom l.members l.grid l.index) l.fn.edges.items l.edges.items
