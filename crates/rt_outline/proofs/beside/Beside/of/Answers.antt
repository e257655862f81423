use Rattle.std.proofs.Common.{below_more}
use Rattle.rt_outline.specs.Inside.Beside.{kind_of, IsListed}
use Rattle.rt_outline.proofs.beside.Beside.of.Goals as goal

pub loop-node-preserved : goal.loop-node-preserved
loop-node-preserved c =
    below_more
    (IsListed c.args.frame.now.origins.items c.args.sorts.now.classes.items c.list.new.lists.entries)
    c.loop-node.node (λ w less q d m made class. c.in_ok-list.ensures.kept (d, kind_of m) w (c.loop-node.invariant w less q d m made class)) c.in_ok-list.ensures.made
