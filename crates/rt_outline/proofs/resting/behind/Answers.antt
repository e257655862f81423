use Rattle.rt_outline.proofs.Rested.{behind_some}
use Rattle.rt_outline.proofs.resting.behind.Goals as goal

pub returns-in-Longer-Longer : goal.returns-in-Longer-Longer
returns-in-Longer-Longer c =
    behind_some c.args.named.now c.args.from c.args.to c.in-Longer-Longer.p c.in-Longer-Longer.q c.in-Longer-Longer.l c.in-Longer-Longer.m c.ordered.result
    c.in-Longer-Longer.ensures.made c.in-Longer-Longer.ensures'.made c.ordered.ensures
