use Rattle.std.proofs.Common.{◌≤◌, length, refl, subst, sym, ◌∙◌, arith}
use Rattle.rt_outline.specs.Frames.{IsPushedMore}
use Rattle.rt_outline.proofs.Closed.{more_more, more_same, pass_next, pass_whole}
use Rattle.rt_outline.proofs.closing.pass.Goals.{then-branch, else-branch}
use Rattle.rt_outline.proofs.closing.pass.Goals as goal

pub loop-node-init : goal.loop-node-init
loop-node-init c = record {
  frame = c.requires.frame;
  origins = refl;
  steps = refl;
  more = more_same c.args.frame.now.origins.items c.args.stands.now c.args.frame.now.arcs.items;
  followed = c.requires.followed;
  done = λ e. (refl, λ v h. absurd (omega (arith, h)));
}

pub loop-node-preserved : goal.loop-node-preserved
loop-node-preserved c = record {
  frame = c.in_ok-push_node.ensures.frame;
  origins = c.in_ok-push_node.ensures.origins ∙ c.loop-node.invariant.origins;
  steps = c.push_node.ensures.steps ∙ c.loop-node.invariant.steps;
  more = more_more c.args.frame.now.origins.items c.args.stands.now c.args.frame.now.arcs.items c.loop-node.frame.arcs.items c.push_node.new.frame.arcs.items c.loop-node.invariant.more
      (subst (λ os. IsPushedMore os c.args.stands.now c.loop-node.frame.arcs.items c.push_node.new.frame.arcs.items) c.loop-node.invariant.origins c.in_ok-push_node.ensures.more);
  followed = c.in_ok-push_node.ensures.followed;
  done = λ e. (elim c.if-branch.branch [
    | then-branch w ↦ absurd (let f = w.added-is in cc)
    | else-branch w ↦ pass_next c.args.frame.now.origins.items c.loop-node.frame.origins.items c.args.frame.now.steps c.loop-node.frame.steps c.args.frame.now.arcs.items c.loop-node.frame.arcs.items c.push_node.new.frame.arcs.items c.args.stands.now c.loop-node.node
        c.loop-node.invariant.origins c.loop-node.invariant.steps (c.loop-node.invariant.done (sym w.added-is ∙ e)) (c.in_ok-push_node.ensures.done w.if-branch.false)
  ]);
}

pub returns-clause-closed : goal.returns-clause-closed
returns-clause-closed c = λ e. (let h : length c.args.frame.now.origins.items ≤ c.loop-node.node = omega arith in
    pass_whole c.args.frame.now.origins.items c.loop-node.frame.origins.items c.args.frame.now.steps c.loop-node.frame.steps c.args.frame.now.arcs.items c.loop-node.frame.arcs.items c.loop-node.frame.back.items c.args.stands.now c.loop-node.node
    c.loop-node.invariant.origins c.loop-node.invariant.steps h c.loop-node.invariant.frame (c.loop-node.invariant.done e))
