use Rattle.std.proofs.Common.{◌<◌, length, arith}
use Rattle.rt_outline.proofs.Gathered.{grown_joined, hub_at, hubs_kept, own_at}
use Rattle.rt_outline.proofs.Crossed.{grown_stepped}
use Rattle.rt_outline.proofs.hubs.enter_below.Goals as goal

pub returns-in_ok-join-in-Some-clause-more : goal.returns-in_ok-join-in-Some-clause-more
returns-in_ok-join-in-Some-clause-more c =
    grown_joined c.args.frame.now.origins.items c.hub_of.new.frame.origins.items c.join.new.self.origins.items c.args.frame.now.arcs.items c.hub_of.new.frame.arcs.items c.join.new.self.arcs.items
    c.in_ok-hub-in-Some.hub c.args.node c.in_ok-hub-in-Some.ensures.more c.in_ok-join-in-Some.ensures.origins c.in_ok-join-in-Some.ensures.added

pub returns-in_ok-join-in-Some-clause-joined : goal.returns-in_ok-join-in-Some-clause-joined
returns-in_ok-join-in-Some-clause-joined c =
    let grown = grown_joined c.args.frame.now.origins.items c.hub_of.new.frame.origins.items c.join.new.self.origins.items c.args.frame.now.arcs.items c.hub_of.new.frame.arcs.items c.join.new.self.arcs.items
    c.in_ok-hub-in-Some.hub c.args.node c.in_ok-hub-in-Some.ensures.more c.in_ok-join-in-Some.ensures.origins c.in_ok-join-in-Some.ensures.added in
    let small : c.args.node < length c.args.frame.now.origins.items = omega (arith, c.requires.node, c.requires.flips) in
    hub_at c.args.frame.now.origins.items grown.more c.join.new.self.origins.items c.join.new.self.arcs.items c.args.classes.now c.args.flips.now c.hub_of.new.hubs.entries c.args.node c.in-Some.key c.in_ok-hub-in-Some.hub
    grown.behind small c.in-Some.ensures c.in_ok-hub-in-Some.ensures.found c.in_ok-join-in-Some.ensures.added.added

pub returns-in_ok-enter_access-in-None-clause-more : goal.returns-in_ok-enter_access-in-None-clause-more
returns-in_ok-enter_access-in-None-clause-more c =
    grown_stepped c.args.frame.now.origins.items c.enter_access.new.frame.origins.items c.args.frame.now.arcs.items c.enter_access.new.frame.arcs.items
    c.in_ok-enter_access-in-None.ensures.more

pub returns-in_ok-enter_access-in-None-clause-hubs : goal.returns-in_ok-enter_access-in-None-clause-hubs
returns-in_ok-enter_access-in-None-clause-hubs c =
    hubs_kept c.args.frame.now.origins.items c.in_ok-enter_access-in-None.ensures.more.more c.enter_access.new.frame.origins.items
    c.in_ok-enter_access-in-None.ensures.more.behind c.args.hubs.now.entries c.requires.hubs

pub returns-in_ok-enter_access-in-None-clause-joined : goal.returns-in_ok-enter_access-in-None-clause-joined
returns-in_ok-enter_access-in-None-clause-joined c =
    let small : c.args.node < length c.args.frame.now.origins.items = omega (arith, c.requires.node, c.requires.flips) in
    own_at c.args.frame.now.origins.items c.in_ok-enter_access-in-None.ensures.more.more c.enter_access.new.frame.origins.items c.enter_access.new.frame.arcs.items
    c.args.classes.now c.args.flips.now c.args.hubs.now.entries c.args.node c.in_ok-enter_access-in-None.ensures.more.behind small c.in-None.ensures
    c.in_ok-enter_access-in-None.ensures.access
