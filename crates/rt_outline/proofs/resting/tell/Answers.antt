use Rattle.rt_outline.proofs.Rested.{led_below}
use Rattle.rt_outline.proofs.resting.tell.Goals as goal

pub returns-in-Yes-clause-yes : goal.returns-in-Yes-clause-yes
returns-in-Yes-clause-yes c = λ e. led_below c.args.ground.now.named.now c.args.ground.now.arcs.now c.args.ground.now.stands.now c.args.sources.now c.args.targets.now (c.in_ok-led.ensures.yes c.in-Yes.is)
