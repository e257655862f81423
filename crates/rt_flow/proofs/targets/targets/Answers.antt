use Rattle.std.proofs.Common.{◌+◌, ◌≤◌, ℕ, List, length, sym, ap, subst}
use Rattle.rt_flow.proofs.Targeting.{IsTargeting, starts, passed_by, added_to, ends}
use Rattle.rt_flow.proofs.targets.targets.Goals as goal
use Rattle.rt_flow.proofs.targets.targets.Goals.{then-first-to+in_ok-push, else-first-to}

pub loop-from-init : goal.loop-from-init
loop-from-init c = record {
  items = c.edges-from-items.ensures.value;
  good = c.edges-from-items.ensures.good;
  targeting = starts c.args.graph.now c.args.blocks.now.block.items c.args.blocks.now.firsts.items c.count.result c.count.ensures c.in_ok-targets.targets.items c.in_ok-targets.ensures;
}

pub loop-from-preserved : goal.loop-from-preserved
loop-from-preserved c = record {
  items = c.loop-from.invariant.items;
  good = c.loop-from.invariant.good;
  targeting = elim c.if-first-to.branch [
    | then-first-to+in_ok-push w ↦
        added_to c.args.graph.now c.args.blocks.now.block.items c.args.blocks.now.firsts.items c.loop-from.from-index c.loop-from.targets.items c.loop-from.invariant.targeting c.edges-from-items.result.now c.loop-from.invariant.items c.loop-from-test.true
        c.block-block.result c.first.result w.block-from_block.result c.block-block.ensures.value c.first.ensures w.if-first-to.true w.block-from_block.ensures.value w.block-from_block.ensures.within
        w.index_mut.result.now w.push.new.self w.index_mut.ensures.value w.in_ok-push.ensures.ok c.if-first-to.targets.items (ap (λ v. v.items) w.targets-is)
    | else-first-to w ↦
        subst (IsTargeting c.args.graph.now c.args.blocks.now.block.items c.args.blocks.now.firsts.items (c.loop-from.from-index + 1)) (sym (ap (λ v. v.items) w.targets-is))
        (passed_by c.args.graph.now c.args.blocks.now.block.items c.args.blocks.now.firsts.items c.loop-from.from-index c.loop-from.targets.items c.loop-from.invariant.targeting c.edges-from-items.result.now c.loop-from.invariant.items c.loop-from-test.true
        c.block-block.result c.first.result c.block-block.ensures.value c.first.ensures w.if-first-to.false)
  ];
}

pub returns : goal.returns
returns c =
    ends c.args.graph.now c.args.blocks.now.block.items c.args.blocks.now.firsts.items c.loop-from.from-index c.loop-from.targets.items c.loop-from.invariant.targeting (subst (λ (es : List (ℕ × ℕ)). length es ≤ c.loop-from.from-index) c.loop-from.invariant.items c.loop-from-test.false)
