use Rattle.rt_sat.specs.Inside.Checks.{HasTurns}
use Rattle.rt_sat.proofs.complete.has_turns.Given as goal

abbrev pub invariant-loop-index : goal.invariant-loop-index
invariant-loop-index l = HasTurns l.grid.rows l.index
