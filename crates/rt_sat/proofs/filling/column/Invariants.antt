use Rattle.rt_grid.specs.Tables.{size_of, AreWithin}
use Rattle.rt_sat.proofs.filling.column.Given as goal

abbrev pub invariant-loop-turned : goal.invariant-loop-turned
invariant-loop-turned l = record { within : AreWithin (size_of l.grid) l.ways.items }
