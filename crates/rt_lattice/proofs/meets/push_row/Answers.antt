use Rattle.std.proofs.Common.{arith}
use Rattle.rt_lattice.proofs.Filling.{filled_more}
use Rattle.rt_lattice.proofs.meets.push_row.Goals as goal

pub loop-b-preserved : goal.loop-b-preserved
loop-b-preserved c = filled_more _ _ _ _ _ _ _ c.loop-b.invariant (omega arith) c.in_ok-push.ensures.count c.in_ok-push.ensures.cells c.meet_of.ensures
