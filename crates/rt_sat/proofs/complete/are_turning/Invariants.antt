use Rattle.std.proofs.Common.{ℕ, ◌<◌, length}
use Rattle.rt_sat.specs.Inside.Checks.{HasTurns}
use Rattle.rt_sat.specs.Hints.{grid_of, members_of}
use Rattle.rt_sat.proofs.complete.are_turning.Given as goal

abbrev pub invariant-loop-class : goal.invariant-loop-class
invariant-loop-class l = (class : ℕ) → class < l.class → HasTurns (grid_of l.family class).rows (length (members_of l.family class))
