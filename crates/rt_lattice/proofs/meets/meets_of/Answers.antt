use Rattle.std.proofs.Common.{arith}
use Rattle.rt_lattice.proofs.Filling.{filled_ends}
use Rattle.rt_lattice.proofs.meets.meets_of.Goals as goal

pub returns : goal.returns
returns c = filled_ends _ _ _ _ _ c.loop-a.invariant (omega arith)
