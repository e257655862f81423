use Rattle.std.proofs.Common.{List, take, sym, subst}
use Rattle.rt_lines.specs.declared.line.Line.{Line}
use Rattle.rt_reduce.specs.Inside.Deciding.{AreBelow}
use Rattle.rt_reduce.proofs.bounds.ups.Goals as goal
use Rattle.rt_base.proofs.Lists.{take-next}

pub loop-line-preserved : goal.loop-line-preserved
loop-line-preserved c =
    let i = c.loop-line.line-index in
    let lines = c.args.lines.now in
    subst (λ (ls : List Line). AreBelow c.args.order.now ls c.args.k c.enter_up.new.found.items)
    (sym (take-next lines i c.line-item.result c.loop-line-test.true c.line-item.is))
    (c.in_ok-enter_up.ensures (take i lines) c.loop-line.invariant)
