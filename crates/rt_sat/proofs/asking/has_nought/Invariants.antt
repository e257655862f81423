use Rattle.std.proofs.Common.{ℕ, ◌<◌, get_or}
use Rattle.rt_sat.specs.Searches.{IsKnown}
use Rattle.rt_sat.specs.Tables.{place}
use Rattle.rt_sat.proofs.asking.has_nought.Given as goal

abbrev pub invariant-loop-target : goal.invariant-loop-target
invariant-loop-target l = (j : ℕ) → j < l.target-index → IsKnown l.found (place (get_or l.targets j 0)) 0 → ⊥
