use Rattle.rt_solve.proofs.Turned.{turned_publishes}
use Rattle.rt_solve.proofs.turn.turn.Goals as goal

pub returns-clause-turns : goal.returns-clause-turns
returns-clause-turns g c =
    turned_publishes c.args.worker c.args.run.now c.publish.new.run c.args.schedule.now c.args.steps.now c.publish.new.steps
    c.in_ok-publish.ensures.publishes c.in_ok-publish.ensures.rose
