use Rattle.std.proofs.Common.{◌≡◌, length}
use Rattle.rt_grid.specs.Tables.{IsRelaxedBy}
use Rattle.rt_grid.proofs.grid.relax_all.Given as goal

abbrev pub invariant-loop-step : goal.invariant-loop-step
invariant-loop-step l = record {
  each : length l.row ≡ length l.fn.row;
  counts : IsRelaxedBy l.fn.row l.rows l.steps l.row;
}
