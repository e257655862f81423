use Rattle.std.proofs.Common.{◌≡◌}
use Rattle.rt_grid.specs.Tables.{size_of, Holds, Says}
use Rattle.rt_grid.proofs.grid.Grid.prune.Given as goal

abbrev pub invariant-loop-place : goal.invariant-loop-place
invariant-loop-place l = record {
  size : size_of l.self ≡ size_of l.fn.self;
  holds : Holds (Says l.fn.self) l.self;
}
