use Rattle.rt_ways.proofs.Noding.{nodes_more, nodes_none, nodes_whole}
use Rattle.rt_ways.proofs.nodes.nodes_of.Goals as goal

pub loop-number-init : goal.loop-number-init
loop-number-init c = nodes_none c.args.shape.now c.args.named.now c.new-nodes.result.items c.new-nodes.ensures.items

pub loop-number-preserved : goal.loop-number-preserved
loop-number-preserved c =
    nodes_more c.args.shape.now c.args.named.now c.loop-number.number c.node-node.result c.loop-number.nodes.items c.push.new.self.items c.in_ok-push.ensures.items c.node-node.ensures c.loop-number.invariant

pub returns : goal.returns
returns c = nodes_whole c.args.shape.now c.args.named.now c.loop-number.number c.loop-number.nodes.items c.loop-number-test.false c.len-number-end.ensures.count c.loop-number.auto.number-end c.loop-number.invariant
