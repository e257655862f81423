use Rattle.std.proofs.Common.{◌≡◌, replicate, []}
use Rattle.rt_grid.proofs.grid.no_steps.Given as goal

abbrev pub invariant-loop : goal.invariant-loop
invariant-loop l = l.steps.items ≡ replicate l.counter []
