use Rattle.std.proofs.Common.{ℕ, ◌<◌}
use Rattle.rt_sat.specs.Mattering.{IsKeptAt}
use Rattle.rt_sat.proofs.marking.are_kept.Given as goal

abbrev pub invariant-loop-i : goal.invariant-loop-i
invariant-loop-i l = (j : ℕ) → j < l.i → IsKeptAt l.shape l.marks j
