use Rattle.std.proofs.Common.{ℕ, ◌<◌, Contains, get_or}
use Rattle.rt_outline.proofs.spreading.meets.Given as goal

abbrev pub invariant-loop-target : goal.invariant-loop-target
invariant-loop-target l = (j : ℕ) → j < l.target-index → Contains l.found (get_or l.targets j 0) → ⊥
