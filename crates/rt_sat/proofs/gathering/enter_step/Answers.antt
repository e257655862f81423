use Rattle.rt_sat.proofs.ToldPushes.{with_none}
use Rattle.rt_sat.proofs.gathering.enter_step.Goals as goal

pub returns-then-step-level-clause-holds : goal.returns-then-step-level-clause-holds
returns-then-step-level-clause-holds c = with_none c.args.grid.now c.args.from c.args.step.to c.args.step.count
