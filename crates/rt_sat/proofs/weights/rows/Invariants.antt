use Rattle.rt_sat.specs.Weights.{AreSearches}
use Rattle.rt_sat.proofs.weights.rows.Given as goal

abbrev pub invariant-loop-number : goal.invariant-loop-number
invariant-loop-number l = AreSearches l.edges l.contra l.number l.rows.items
