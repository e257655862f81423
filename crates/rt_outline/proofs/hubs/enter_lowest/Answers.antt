use Rattle.std.proofs.Common.{◌<◌, true, length, arith}
use Rattle.std.proofs.lemmas.Option.{slice_get_within}
use Rattle.rt_outline.specs.Hubs.{HasLowest}
use Rattle.rt_outline.proofs.Crossed.{grown_stepped}
use Rattle.rt_outline.proofs.Gathered.{flagged_next, stepped_more, unflagged}
use Rattle.rt_outline.proofs.Lowest.{lowest_kept}
use Rattle.rt_outline.proofs.hubs.enter_lowest.Goals.{then-flips-node+in_ok-enter_lower, else-flips-node}
use Rattle.rt_outline.proofs.hubs.enter_lowest.Goals as goal

pub loop-node-preserved : goal.loop-node-preserved
loop-node-preserved c = elim c.if-flips-node.branch [
  | then-flips-node+in_ok-enter_lower w ↦ rw w.frame-is (record {
    frame = w.in_ok-enter_lower.ensures.frame;
    more = stepped_more c.args.frame.now.origins.items c.loop-node.frame.origins.items w.enter_lower.new.frame.origins.items c.args.frame.now.arcs.items c.loop-node.frame.arcs.items w.enter_lower.new.frame.arcs.items
        c.loop-node.invariant.more w.in_ok-enter_lower.ensures.more;
    all = flagged_next (HasLowest w.enter_lower.new.frame.origins.items w.enter_lower.new.frame.arcs.items) c.args.flips.now c.loop-node.node
        (λ n h e. lowest_kept c.loop-node.frame.origins.items w.enter_lower.new.frame.origins.items c.loop-node.frame.arcs.items w.enter_lower.new.frame.arcs.items
        (grown_stepped c.loop-node.frame.origins.items w.enter_lower.new.frame.origins.items c.loop-node.frame.arcs.items w.enter_lower.new.frame.arcs.items w.in_ok-enter_lower.ensures.more)
        n (c.loop-node.invariant.all n h e))
        (λ e. w.in_ok-enter_lower.ensures.lowest);
  })
  | else-flips-node w ↦ rw w.frame-is (record {
    frame = c.loop-node.invariant.frame;
    more = c.loop-node.invariant.more;
    all = flagged_next (HasLowest c.loop-node.frame.origins.items c.loop-node.frame.arcs.items) c.args.flips.now c.loop-node.node c.loop-node.invariant.all (λ e. absurd (unflagged c.args.flips.now c.loop-node.node e w.if-flips-node.false));
  })
]

pub returns-clause-all : goal.returns-clause-all
returns-clause-all c = λ n e.
    let h : n < length c.args.flips.now = slice_get_within c.args.flips.now n true e in
    c.loop-node.invariant.all n (omega (arith, h, c.loop-node-test.false)) e
