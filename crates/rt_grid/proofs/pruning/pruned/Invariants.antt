use Rattle.std.proofs.Common.{Contains}
use Rattle.rt_grid.specs.declared.grid.Step.{Step}
use Rattle.rt_grid.proofs.pruning.pruned.Given as goal

abbrev pub invariant-loop-level : goal.invariant-loop-level
invariant-loop-level l = (s : Step) → Contains l.kept s → Contains l.steps s

abbrev pub invariant-loop-step : goal.invariant-loop-step
invariant-loop-step l = (s : Step) → Contains l.kept s → Contains l.steps s
