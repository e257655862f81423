use Rattle.rt_outline.proofs.Paired.{below_next}
use Rattle.rt_outline.proofs.classes.open_pairs.Goals as goal

pub loop-node-preserved : goal.loop-node-preserved
loop-node-preserved c =
    below_next c.args.arcs.now c.args.stands.now c.loop-node.node c.leaving.result.now c.loop-node.pairs.items c.add_pairs.new.pairs.items
    c.leaving.ensures c.in_ok-add_pairs.ensures c.loop-node.invariant
