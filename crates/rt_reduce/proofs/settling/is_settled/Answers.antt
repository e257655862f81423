use Rattle.rt_reduce.proofs.Leftover.{settled_or, unused_or}
use Rattle.rt_reduce.proofs.settling.is_settled.Goals as goal

pub returns-then-not-used : goal.returns-then-not-used
returns-then-not-used c = unused_or c.in_ok-used.used c.args.lines.now c.if-not-used.true c.in_ok-used.ensures

pub returns : goal.returns
returns c =
    settled_or c.in_ok-simple.simple c.in_ok-used.used c.args.lines.now c.if-not-used.false c.in_ok-used.ensures c.in_ok-simple.ensures
