use Rattle.rt_outline.specs.Built.{IsLaid}
use Rattle.rt_outline.proofs.Crossed.{crossed_if, crossed_same, laid_grown, laid_pushed}
use Rattle.rt_outline.proofs.Pushing.{followed_kept}
use Rattle.rt_outline.proofs.crossing.crossed_by.Goals as goal

pub loop-preserved : goal.loop-preserved
loop-preserved c = record {
  frame = c.in_ok-pass.ensures.frame;
  laid = laid_pushed c.args.lines.now c.args.named.now c.args.sorts.now.flips.items c.args.stands.now c.loop.frame.origins.items c.pass.new.frame.origins.items
      c.loop.frame.arcs.items c.pass.new.frame.arcs.items c.in_ok-pass.ensures.origins c.in_ok-pass.ensures.more c.loop.invariant.laid;
  followed = c.in_ok-pass.ensures.followed;
}

pub close_on-requires-clause-followed : goal.close_on-requires-clause-followed
close_on-requires-clause-followed c =
    followed_kept c.loop.reached.items c.loop.frame.arcs.items c.add_hubs.new.frame.arcs.items c.in_ok-add_hubs.ensures.more.kept c.loop.invariant.followed

pub loop-2-init : goal.loop-2-init
loop-2-init c =
    let laid : IsLaid c.args.lines.now c.args.named.now c.args.sorts.now.flips.items c.add_hubs.new.frame.origins.items c.add_hubs.new.frame.arcs.items =
    laid_grown c.args.lines.now c.args.named.now c.args.sorts.now.flips.items c.loop.frame.origins.items c.add_hubs.new.frame.origins.items
    c.loop.frame.arcs.items c.add_hubs.new.frame.arcs.items c.in_ok-add_hubs.ensures.more c.in_ok-add_hubs.ensures.pointers c.loop.invariant.laid in
    record {
      frame = c.in_ok-close_on.ensures.frame;
      laid = laid_pushed c.args.lines.now c.args.named.now c.args.sorts.now.flips.items c.args.stands.now c.add_hubs.new.frame.origins.items c.close_on.new.frame.origins.items
          c.add_hubs.new.frame.arcs.items c.close_on.new.frame.arcs.items c.in_ok-close_on.ensures.origins c.in_ok-close_on.ensures.more laid;
      closed = c.in_ok-close_on.ensures.closed;
      followed = c.in_ok-close_on.ensures.followed;
    }

pub returns-then-not-branch-clause-crossed : goal.returns-then-not-branch-clause-crossed
returns-then-not-branch-clause-crossed c =
    let same = c.in_ok-add_hubs-2.ensures.same c.if-not-branch.true in
    let laid : IsLaid c.args.lines.now c.args.named.now c.args.sorts.now.flips.items c.add_hubs-in-loop-2.new.frame.origins.items c.add_hubs-in-loop-2.new.frame.arcs.items =
    laid_grown c.args.lines.now c.args.named.now c.args.sorts.now.flips.items c.loop-2.frame.origins.items c.add_hubs-in-loop-2.new.frame.origins.items
    c.loop-2.frame.arcs.items c.add_hubs-in-loop-2.new.frame.arcs.items c.in_ok-add_hubs-2.ensures.more c.in_ok-add_hubs-2.ensures.pointers c.loop-2.invariant.laid in
    crossed_if c.args.lines.now c.args.named.now c.args.sorts.now.flips.items c.args.stands.now c.add_hubs-in-loop-2.new.frame c.if_turning.result
    (crossed_same c.args.lines.now c.args.named.now c.args.sorts.now.flips.items c.args.stands.now c.loop-2.frame.origins.items c.add_hubs-in-loop-2.new.frame.origins.items
    c.loop-2.frame.arcs.items c.add_hubs-in-loop-2.new.frame.arcs.items same.0 same.1 laid c.loop-2.invariant.closed) c.if_turning.ensures.same

pub close_on-requires-in-loop-2-clause-followed : goal.close_on-requires-in-loop-2-clause-followed
close_on-requires-in-loop-2-clause-followed c =
    followed_kept c.loop-2.reached.items c.loop-2.frame.arcs.items c.add_hubs-in-loop-2.new.frame.arcs.items c.in_ok-add_hubs-2.ensures.more.kept c.loop-2.invariant.followed

pub loop-2-preserved : goal.loop-2-preserved
loop-2-preserved c =
    let laid : IsLaid c.args.lines.now c.args.named.now c.args.sorts.now.flips.items c.add_hubs-in-loop-2.new.frame.origins.items c.add_hubs-in-loop-2.new.frame.arcs.items =
    laid_grown c.args.lines.now c.args.named.now c.args.sorts.now.flips.items c.loop-2.frame.origins.items c.add_hubs-in-loop-2.new.frame.origins.items
    c.loop-2.frame.arcs.items c.add_hubs-in-loop-2.new.frame.arcs.items c.in_ok-add_hubs-2.ensures.more c.in_ok-add_hubs-2.ensures.pointers c.loop-2.invariant.laid in
    record {
      frame = c.in_ok-close_on-2.ensures.frame;
      laid = laid_pushed c.args.lines.now c.args.named.now c.args.sorts.now.flips.items c.args.stands.now c.add_hubs-in-loop-2.new.frame.origins.items c.close_on-in-loop-2.new.frame.origins.items
          c.add_hubs-in-loop-2.new.frame.arcs.items c.close_on-in-loop-2.new.frame.arcs.items c.in_ok-close_on-2.ensures.origins c.in_ok-close_on-2.ensures.more laid;
      closed = c.in_ok-close_on-2.ensures.closed;
      followed = c.in_ok-close_on-2.ensures.followed;
    }
