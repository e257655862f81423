use Rattle.std.proofs.Common.{◌≡◌, take}
use Rattle.rt_sat.proofs.family.grids_copied.Given as goal

abbrev pub invariant-loop-grid : goal.invariant-loop-grid
invariant-loop-grid l = l.copies.items ≡ take l.grid-index l.grids
