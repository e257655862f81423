use Rattle.std.proofs.Common.{◌≡◌, ◌<◌, ℕ, length}
use Rattle.rt_grid.specs.Tables.{row_of, AreWays, IsRest}
use Rattle.rt_grid.proofs.grid.first_rows.Given as goal

abbrev pub invariant-loop-place : goal.invariant-loop-place
invariant-loop-place l = record {
  each : length l.rows.items ≡ l.place;
  long : (i : ℕ) → i < l.place → length (row_of l.rows.items i) ≡ l.size;
  ways : AreWays (IsRest l.size) l.rows.items;
}
