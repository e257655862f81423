use Rattle.std.proofs.Common.{◌≡◌}
use Rattle.rt_grid.specs.Tables.{size_of, Holds, Made, Says}
use Rattle.rt_grid.proofs.grid.Grid.sweep.Given as goal

abbrev pub invariant-loop-place : goal.invariant-loop-place
invariant-loop-place l = record {
  size : size_of l.self ≡ size_of l.fn.self;
  holds : Holds (Made (Says l.fn.self)) l.self;
}

abbrev pub invariant-loop-behind : goal.invariant-loop-behind
invariant-loop-behind l = record {
  size : size_of l.self ≡ size_of l.fn.self;
  holds : Holds (Made (Says l.fn.self)) l.self;
}
