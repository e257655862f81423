use Rattle.std.proofs.Common.{◌≡◌}
use Rattle.rt_grid.specs.Tables.{size_of, Holds, Made, Says}
use Rattle.rt_grid.proofs.grid.Grid.close.Given as goal

abbrev pub invariant-loop : goal.invariant-loop
invariant-loop l = record {
  size : size_of l.self ≡ size_of l.fn.self;
  holds : Holds (Made (Says l.fn.self)) l.self;
}
