use Rattle.std.proofs.Common.{◌≡◌, ◌∙◌, length, arith}
use Rattle.rt_named.specs.Nodes.{flips_at}
use Rattle.rt_named.proofs.Noding.{said_none, said_next, said_all}
use Rattle.rt_named.proofs.nodes.flips.Goals as goal

pub loop-node-init : goal.loop-node-init
loop-node-init c = said_none (flips_at c.args.shape.now) c.args.nodes.now c.new-flips.result.items c.new-flips.ensures.items

pub loop-node-preserved : goal.loop-node-preserved
loop-node-preserved c =
    said_next (flips_at c.args.shape.now) c.args.nodes.now c.loop-node.node-index c.loop-node.flips.items c.push.new.self.items c.is_flip.result c.is_flip.ensures c.in_ok-push.ensures.items c.loop-node.invariant

pub returns : goal.returns
returns c =
    let e : c.loop-node.node-index ≡ length c.args.nodes.now = omega (arith, c.loop-node-test.false, c.loop-node.auto.node-index-end) in
    record {
      each = c.loop-node.invariant.size ∙ e;
      flag = said_all (flips_at c.args.shape.now) c.args.nodes.now c.loop-node.node-index c.loop-node.flips.items e c.loop-node.invariant;
    }
