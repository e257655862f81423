use Rattle.std.proofs.Common.{sym}
use Rattle.rt_reduce.proofs.Inners.{table_below}
use Rattle.rt_reduce.proofs.inner.tells_of.Goals as goal

pub returns-then-has : goal.returns-then-has
returns-then-has c = λ e.
    table_below c.args.table.now c.args.x.now c.y-item.result c.args.to.now (c.loop-y.y-index, c.loop-y-test.true, sym c.y-item.is)
    (c.has.ensures c.if-has.true)
