use Rattle.std.proofs.Common.{sym}
use Rattle.rt_reduce.proofs.Inners.{below_among}
use Rattle.rt_reduce.proofs.inner.tells.Goals as goal

pub returns-then-tells_of : goal.returns-then-tells_of
returns-then-tells_of c = λ e told tells order.
    below_among order told c.x-item.result c.args.from.now c.args.to.now (c.loop-x.x-index, c.loop-x-test.true, sym c.x-item.is)
    (c.tells_of.ensures c.if-tells_of.true told tells order)
