use Rattle.std.proofs.Common.{◌≡◌, ℕ, ◌<◌, [], length, get_or}
use Rattle.rt_sat.specs.Hints.{no_table, IsTurning}
use Rattle.rt_sat.proofs.family.grids.Given as goal

abbrev pub invariant-loop-class : goal.invariant-loop-class
invariant-loop-class l = record {
  each : length l.grids.items ≡ l.class-index;
  turning : (class : ℕ) → class < l.class-index → IsTurning (length (get_or l.members class [])) (get_or l.grids.items class no_table);
}
