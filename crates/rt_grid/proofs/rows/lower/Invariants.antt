use Rattle.std.proofs.Common.{◌≡◌, length}
use Rattle.rt_grid.specs.Tables.{IsLowered}
use Rattle.rt_grid.proofs.rows.lower.Given as goal

abbrev pub invariant-loop-step : goal.invariant-loop-step
invariant-loop-step l = record {
  each : length l.row ≡ length l.fn.row;
  counts : IsLowered l.fn.row l.steps l.row;
}
