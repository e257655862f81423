use Rattle.rt_plan.proofs.Waiting.{lengths_all}
use Rattle.rt_plan.proofs.waits.lengths_of.Goals as goal

pub returns-clause-left : goal.returns-clause-left
returns-clause-left c = lengths_all c.args.callees.now c.loop-called.left.items c.loop-called.called-index c.loop-called.invariant.each c.loop-called-test.false c.loop-called.invariant.left
