use Rattle.std.proofs.Common.{refl}
use Rattle.rt_reduce.proofs.Leaving.{AreLeft-none}
use Rattle.rt_reduce.proofs.dropping.drop_on.Goals as goal

pub returns-clause-drops : goal.returns-clause-drops
returns-clause-drops c =
    AreLeft-none c.args.order.now c.args.lines.now c.in_ok-left.left.items 0 refl c.in_ok-left.ensures.left
