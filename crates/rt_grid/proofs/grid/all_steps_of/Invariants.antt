use Rattle.std.proofs.Common.{◌≡◌, take}
use Rattle.rt_grid.proofs.grid.all_steps_of.Given as goal

abbrev pub invariant-loop-from : goal.invariant-loop-from
invariant-loop-from l = l.copies.items ≡ take l.from-index l.steps
