use Rattle.std.proofs.Common.{None, sym}
use Rattle.rt_outline.proofs.Gathered.{stepped_entered, stepped_more, hubs_next, hubs_added, hubs_kept}
use Rattle.rt_outline.proofs.hubs.hub_of.Goals as goal

pub returns-clause-more : goal.returns-clause-more
returns-clause-more c =
    stepped_more c.args.frame.now.origins.items c.enter.new.self.origins.items c.enter_access.new.frame.origins.items c.args.frame.now.arcs.items c.enter.new.self.arcs.items c.enter_access.new.frame.arcs.items
    (stepped_entered c.args.frame.now.origins.items c.enter.new.self.origins.items c.args.frame.now.arcs.items c.enter.new.self.arcs.items None c.in_ok-hub.ensures.origins c.in_ok-hub.ensures.arcs) c.in_ok-enter_access.ensures.more

pub returns-clause-hubs : goal.returns-clause-hubs
returns-clause-hubs c =
    let more = stepped_more c.args.frame.now.origins.items c.enter.new.self.origins.items c.enter_access.new.frame.origins.items c.args.frame.now.arcs.items c.enter.new.self.arcs.items c.enter_access.new.frame.arcs.items
    (stepped_entered c.args.frame.now.origins.items c.enter.new.self.origins.items c.args.frame.now.arcs.items c.enter.new.self.arcs.items None c.in_ok-hub.ensures.origins c.in_ok-hub.ensures.arcs) c.in_ok-enter_access.ensures.more in
    hubs_next c.enter_access.new.frame.origins.items c.args.key c.in_ok-hub.hub c.args.hubs.now.entries c.insert.new.self.entries c.in_ok-insert.ensures.updates.0 c.in_ok-enter_access.ensures.access
    (hubs_kept c.args.frame.now.origins.items more.more c.enter_access.new.frame.origins.items more.behind c.args.hubs.now.entries c.requires.hubs)

pub returns-clause-kept : goal.returns-clause-kept
returns-clause-kept c =
    hubs_added c.args.key c.in_ok-hub.hub c.args.hubs.now.entries c.insert.new.self.entries c.in_ok-insert.ensures.updates.0 (sym c.in_default.ensures.value)
