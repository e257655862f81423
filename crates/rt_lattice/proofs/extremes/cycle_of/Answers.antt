use Rattle.std.proofs.Common.{arith}
use Rattle.rt_lattice.proofs.extremes.cycle_of.Goals as goal

pub returns-clause-first : goal.returns-clause-first
returns-clause-first c = λ a below partner. c.loop-a.invariant a (omega (arith, below)) partner
