use Rattle.std.proofs.Common.{below_more}
use Rattle.rt_outline.specs.Turning.{IsMarkedAt}
use Rattle.rt_outline.proofs.turning.are_marked.Goals as goal

pub loop-node-preserved : goal.loop-node-preserved
loop-node-preserved c =
    below_more
    (IsMarkedAt c.args.frame.now.origins.items c.args.sorts.now.classes.items c.args.sorts.now.flips.items c.args.sorts.now.marks.items)
    c.loop-node.node c.loop-node.invariant (c.is_marked_at.ensures c.if-not-is_marked_at.false)
