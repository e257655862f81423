use Rattle.std.proofs.Common.{◌*◌, length}
use Rattle.rt_sat.specs.Inside.Filling.{AreTurnedIn}
use Rattle.rt_sat.proofs.filling.outer.Given as goal

abbrev pub invariant-loop-index : goal.invariant-loop-index
invariant-loop-index l = record { are : AreTurnedIn (2 * length l.members) l.outer.items }
