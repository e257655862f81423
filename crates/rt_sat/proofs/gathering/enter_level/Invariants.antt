use Rattle.std.proofs.Common.{◌≡◌}
use Rattle.rt_grid.specs.Tables.{size_of, Holds, Made, SaysOr}
use Rattle.rt_sat.proofs.gathering.enter_level.Given as goal

abbrev pub invariant-loop-step : goal.invariant-loop-step
invariant-loop-step l = record {
  size : size_of l.grid ≡ size_of l.fn.grid;
  holds : Holds (Made (SaysOr l.fn.grid l.from l.found)) l.grid;
}
