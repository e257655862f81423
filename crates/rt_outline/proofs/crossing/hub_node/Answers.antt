use Rattle.std.proofs.Common.{None}
use Rattle.rt_outline.specs.Hubs.{IsGrownBy}
use Rattle.rt_outline.proofs.Crossed.{grown_stepped}
use Rattle.rt_outline.proofs.Gathered.{grown_more, stepped_entered}
use Rattle.rt_outline.proofs.Placed.{pointers_entered}
use Rattle.rt_outline.proofs.crossing.hub_node.Goals as goal

pub returns-in_ok-enter_both-clause-more : goal.returns-in_ok-enter_both-clause-more
returns-in_ok-enter_both-clause-more c =
    let entered : IsGrownBy c.args.frame.now.origins.items c.args.frame.now.arcs.items c.enter.new.self.origins.items c.enter.new.self.arcs.items =
    grown_stepped c.args.frame.now.origins.items c.enter.new.self.origins.items c.args.frame.now.arcs.items c.enter.new.self.arcs.items
    (stepped_entered c.args.frame.now.origins.items c.enter.new.self.origins.items c.args.frame.now.arcs.items c.enter.new.self.arcs.items None c.in_ok-node.ensures.origins c.in_ok-node.ensures.arcs) in
    grown_more c.args.frame.now.origins.items c.enter.new.self.origins.items c.enter_both.new.frame.origins.items c.args.frame.now.arcs.items c.enter.new.self.arcs.items c.enter_both.new.frame.arcs.items
    entered c.in_ok-enter_both.ensures.more

pub returns-else-is_lower-clause-more : goal.returns-else-is_lower-clause-more
returns-else-is_lower-clause-more c =
    grown_stepped c.args.frame.now.origins.items c.enter.new.self.origins.items c.args.frame.now.arcs.items c.enter.new.self.arcs.items
    (stepped_entered c.args.frame.now.origins.items c.enter.new.self.origins.items c.args.frame.now.arcs.items c.enter.new.self.arcs.items None c.in_ok-node.ensures.origins c.in_ok-node.ensures.arcs)

pub returns-else-is_lower-clause-pointers : goal.returns-else-is_lower-clause-pointers
returns-else-is_lower-clause-pointers c =
    pointers_entered c.args.frame.now.origins.items c.enter.new.self.origins.items c.args.frame.now.arcs.items c.enter.new.self.arcs.items c.in_ok-node.ensures.origins c.in_ok-node.ensures.arcs c.requires.pointers
