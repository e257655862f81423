use Rattle.rt_outline.specs.Lines.{standing}
use Rattle.rt_reduce.proofs.Telling.{tells_below}
use Rattle.rt_reduce.proofs.deciding.told_below.Goals as goal

pub returns : goal.returns
returns c = λ order.
    tells_below order (standing c.args.outer.now.lines c.args.stands.now) c.args.x.now c.args.y.now c.from_ref-from.result.now
    c.in_ok-led.led c.from_ref-from.ensures.value c.in_ok-led.ensures.no c.in_ok-led.ensures.yes
