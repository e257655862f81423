use Rattle.std.proofs.Common.{◌≡◌, ◌*◌}
use Rattle.rt_grid.specs.Tables.{size_of, Holds}
use Rattle.rt_sat.specs.Hints.{Turns}
use Rattle.rt_sat.proofs.family.turning.Given as goal

abbrev pub invariant-loop-index : goal.invariant-loop-index
invariant-loop-index l = record {
  size : size_of l.grid ≡ 2 * l.count;
  holds : Holds (Turns (2 * l.count)) l.grid;
}
