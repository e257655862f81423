use Rattle.std.proofs.Common.{◌<◌, ◌≤◌, true, length, arith}
use Rattle.std.proofs.lemmas.Option.{slice_get_within}
use Rattle.rt_outline.specs.Hubs.{HasHubAt}
use Rattle.rt_outline.proofs.Gathered.{flagged_next, grown_more, hub_kept, length_kept, unflagged}
use Rattle.rt_outline.proofs.hubs.enter_hubs.Goals.{then-flips-node+in_ok-enter_below, else-flips-node}
use Rattle.rt_outline.proofs.hubs.enter_hubs.Goals as goal

pub loop-node-preserved : goal.loop-node-preserved
loop-node-preserved c = elim c.if-flips-node.branch [
  | then-flips-node+in_ok-enter_below w ↦ rw w.frame-is (rw w.hubs-is (record {
    frame = w.in_ok-enter_below.ensures.frame;
    more = grown_more c.args.frame.now.origins.items c.loop-node.frame.origins.items w.enter_below.new.frame.origins.items c.args.frame.now.arcs.items c.loop-node.frame.arcs.items w.enter_below.new.frame.arcs.items
        c.loop-node.invariant.more w.in_ok-enter_below.ensures.more;
    hubs = w.in_ok-enter_below.ensures.hubs;
    joined = flagged_next (HasHubAt w.enter_below.new.frame.origins.items w.enter_below.new.frame.arcs.items c.args.classes.now c.args.flips.now w.enter_below.new.hubs.entries) c.args.flips.now c.loop-node.node
        (λ n h e.
        let m : length c.args.frame.now.origins.items ≤ length c.loop-node.frame.origins.items =
        length_kept c.args.frame.now.origins.items c.loop-node.invariant.more.more c.loop-node.frame.origins.items c.loop-node.invariant.more.behind in
        let small : n < length c.loop-node.frame.origins.items = omega (arith, h, m, c.loop-node-test.true, c.requires.flips) in
        hub_kept c.loop-node.frame.origins.items w.enter_below.new.frame.origins.items c.loop-node.frame.arcs.items w.enter_below.new.frame.arcs.items c.args.classes.now c.args.flips.now
        c.loop-node.hubs.entries w.enter_below.new.hubs.entries n small w.in_ok-enter_below.ensures.more w.in_ok-enter_below.ensures.kept (c.loop-node.invariant.joined n h e))
        (λ e. w.in_ok-enter_below.ensures.joined);
  }))
  | else-flips-node w ↦ rw w.frame-is (rw w.hubs-is (record {
    frame = c.loop-node.invariant.frame;
    more = c.loop-node.invariant.more;
    hubs = c.loop-node.invariant.hubs;
    joined = flagged_next (HasHubAt c.loop-node.frame.origins.items c.loop-node.frame.arcs.items c.args.classes.now c.args.flips.now c.loop-node.hubs.entries) c.args.flips.now c.loop-node.node
        c.loop-node.invariant.joined (λ e. absurd (unflagged c.args.flips.now c.loop-node.node e w.if-flips-node.false));
  }))
]

pub returns-clause-hubs : goal.returns-clause-hubs
returns-clause-hubs c = (
  c.loop-node.hubs.entries,
  c.loop-node.invariant.hubs,
  λ n e. (let h : n < length c.args.flips.now = slice_get_within c.args.flips.now n true e in c.loop-node.invariant.joined n (omega (arith, h, c.loop-node-test.false)) e),
)
