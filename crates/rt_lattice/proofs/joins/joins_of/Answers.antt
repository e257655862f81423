use Rattle.std.proofs.Common.{arith}
use Rattle.rt_lattice.proofs.Filling.{filled_ends}
use Rattle.rt_lattice.proofs.joins.joins_of.Goals as goal

pub returns-clause-ok : goal.returns-clause-ok
returns-clause-ok c = filled_ends _ _ _ _ _ c.loop-a.invariant (omega arith)
