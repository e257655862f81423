use Rattle.std.proofs.Common.{◌≡◌, ◌∙◌, ap, length, arith}
use Rattle.rt_named.proofs.Noding.{said_none, said_next, said_all}
use Rattle.rt_sat.specs.Mattering.{mark_at}
use Rattle.rt_sat.proofs.marking.matters.Goals as goal

pub loop-node-init : goal.loop-node-init
loop-node-init c = said_none (mark_at c.args.marks.now) c.args.nodes.now c.new-matters.result.items c.new-matters.ensures.items

pub loop-node-preserved : goal.loop-node-preserved
loop-node-preserved c =
    said_next (mark_at c.args.marks.now) c.args.nodes.now c.loop-node.node-index c.loop-node.matters.items c.push.new.self.items c.is_marked.result c.is_marked.ensures c.in_ok-push.ensures.items c.loop-node.invariant

pub returns : goal.returns
returns c =
    let e : c.loop-node.node-index ≡ length c.args.nodes.now = omega (arith, c.loop-node-test.false, c.loop-node.auto.node-index-end) in
    λ graph named are n h.
    said_all (mark_at c.args.marks.now) c.args.nodes.now c.loop-node.node-index c.loop-node.matters.items e c.loop-node.invariant n (omega (arith, h, are.each))
    ∙ ap (mark_at c.args.marks.now) (are.node n h)
