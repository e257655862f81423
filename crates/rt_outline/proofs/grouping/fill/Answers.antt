use Rattle.std.proofs.Common.{◌<◌, ◌∙◌, get_or, refl, sym, subst}
use Rattle.rt_base.proofs.Lists.{Contains-read}
use Rattle.rt_outline.proofs.Joining.{filled_next}
use Rattle.rt_outline.proofs.grouping.fill.Goals as goal

pub index_mut-requires : goal.index_mut-requires
index_mut-requires c =
    subst (λ n. get_or c.args.group.now c.loop-node.node-index 0 < n) (sym c.loop-node.invariant.each ∙ sym c.loop-node.numbers.ok.0)
    (c.requires (get_or c.args.group.now c.loop-node.node-index 0) (Contains-read c.args.group.now c.loop-node.node-index 0
    (get_or c.args.group.now c.loop-node.node-index 0) c.loop-node-test.true refl))

pub loop-node-preserved : goal.loop-node-preserved
loop-node-preserved c =
    filled_next c.args.group.now c.loop-node.node-index c.args.k c.args.numbers.now.items c.loop-node.numbers.items c.loop-node-test.true
    (subst (λ n. get_or c.args.group.now c.loop-node.node-index 0 < n) (sym c.loop-node.invariant.each)
    (c.requires (get_or c.args.group.now c.loop-node.node-index 0) (Contains-read c.args.group.now c.loop-node.node-index 0
    (get_or c.args.group.now c.loop-node.node-index 0) c.loop-node-test.true refl))) c.loop-node.invariant
