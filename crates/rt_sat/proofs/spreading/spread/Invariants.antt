use Rattle.rt_sat.specs.Pushes.{AreTaken}
use Rattle.rt_sat.proofs.spreading.spread.Given as goal

abbrev pub invariant-loop : goal.invariant-loop
invariant-loop l = AreTaken l.fn.done.items l.done.items
