use Rattle.std.proofs.Common.{◌≡◌, ap, ◌∙◌, sym, subst, length, arith}
use Rattle.rt_named.specs.Origins.{IsBelow}
use Rattle.rt_named.specs.Nodes.{node_made}
use Rattle.rt_named.proofs.Noding.{nodes_none, nodes_next, nodes_all}
use Rattle.rt_named.proofs.nodes.nodes.Goals as goal

pub loop-number-init : goal.loop-number-init
loop-number-init c = nodes_none c.args.shape.now c.args.named.now c.new-nodes.result.items c.new-nodes.ensures.items

pub node-node-requires : goal.node-node-requires
node-node-requires c = subst (IsBelow c.origin.result) (sym (ap length c.deref.ensures.value ∙ c.loop-number.invariant.size)) c.origin.ensures.below

pub loop-number-preserved : goal.loop-number-preserved
loop-number-preserved c =
    nodes_next c.args.shape.now c.args.named.now c.loop-number.number c.loop-number.nodes.items c.push.new.self.items c.origin.result c.node-node.result c.origin.ensures.made c.origin.ensures.below
    (c.node-node.ensures ∙ ap (λ xs. node_made c.args.shape.now xs c.origin.result) c.deref.ensures.value) c.in_ok-push.ensures.items c.loop-number.invariant

pub returns : goal.returns
returns c =
    let e : c.loop-number.number ≡ length c.args.named.now = omega (arith, c.loop-number-test.false, c.loop-number.auto.number-end, c.len-number-end.ensures.count) in
    nodes_all c.args.shape.now c.args.named.now c.loop-number.number c.loop-number.nodes.items e c.loop-number.invariant
