use Rattle.std.proofs.Common.{refl, subst, ◌∙◌}
use Rattle.rt_outline.specs.Frames.{IsPushedMore}
use Rattle.rt_outline.proofs.Closed.{more_more, more_same}
use Rattle.rt_outline.proofs.closing.close_on.Goals as goal

pub loop-round-init : goal.loop-round-init
loop-round-init c = record { frame = c.requires.frame; origins = refl; more = more_same c.args.frame.now.origins.items c.args.stands.now c.args.frame.now.arcs.items; followed = c.requires.followed }

pub loop-round-preserved : goal.loop-round-preserved
loop-round-preserved c = record {
  frame = c.in_ok-added.ensures.frame;
  origins = c.in_ok-added.ensures.origins ∙ c.loop-round.invariant.origins;
  more = more_more c.args.frame.now.origins.items c.args.stands.now c.args.frame.now.arcs.items c.loop-round.frame.arcs.items c.pass.new.frame.arcs.items c.loop-round.invariant.more
      (subst (λ os. IsPushedMore os c.args.stands.now c.loop-round.frame.arcs.items c.pass.new.frame.arcs.items) c.loop-round.invariant.origins c.in_ok-added.ensures.more);
  followed = c.in_ok-added.ensures.followed;
}

pub returns-then-not-added-clause-more : goal.returns-then-not-added-clause-more
returns-then-not-added-clause-more c =
    more_more c.args.frame.now.origins.items c.args.stands.now c.args.frame.now.arcs.items c.loop-round.frame.arcs.items c.pass.new.frame.arcs.items c.loop-round.invariant.more
    (subst (λ os. IsPushedMore os c.args.stands.now c.loop-round.frame.arcs.items c.pass.new.frame.arcs.items) c.loop-round.invariant.origins c.in_ok-added.ensures.more)

pub returns-then-not-added-clause-origins : goal.returns-then-not-added-clause-origins
returns-then-not-added-clause-origins c = c.in_ok-added.ensures.origins ∙ c.loop-round.invariant.origins

pub returns-then-not-added-clause-closed : goal.returns-then-not-added-clause-closed
returns-then-not-added-clause-closed c = c.in_ok-added.ensures.closed c.if-not-added.true
