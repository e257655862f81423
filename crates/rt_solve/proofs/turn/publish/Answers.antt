use Rattle.std.proofs.Common.{subst}
use Rattle.rt_solve.specs.Steps.{RoseBy}
use Rattle.rt_solve.proofs.Turned.{published_one, publishes_by}
use Rattle.rt_solve.proofs.turn.publish.Goals as goal

pub returns-clause-publishes : goal.returns-clause-publishes
returns-clause-publishes g c =
    publishes_by c.args.worker c.args.run.now c.step.new.self c.in_ok-step.field-0 c.requires.holds c.step.ensures.task c.step.ensures.count
    c.in_ok-step.ensures.step

pub returns-clause-rose : goal.returns-clause-rose
returns-clause-rose g c =
    subst (λ n. RoseBy n c.args.steps.now c.step.new.steps) (published_one c.args.run.now.stage.board c.args.worker c.requires.holds)
    c.in_ok-step.ensures.rose
