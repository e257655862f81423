use Rattle.rt_outline.specs.Lines.{standing}
use Rattle.rt_reduce.proofs.Telling.{tells_up}
use Rattle.rt_reduce.proofs.deciding.told_up.Goals as goal

pub returns : goal.returns
returns c =
    tells_up c.args.order.now (standing c.args.outer.now.lines c.args.stands.now) c.count.ensures.order c.requires.constants
    c.args.k c.args.x.now c.in_ok-led.led c.requires.constant c.in_ok-led.ensures.no c.in_ok-led.ensures.yes
