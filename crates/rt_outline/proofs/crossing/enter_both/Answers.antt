use Rattle.rt_outline.proofs.Placed.{both_grown, both_pointers}
use Rattle.rt_outline.proofs.crossing.enter_both.Goals as goal

pub returns-clause-more : goal.returns-clause-more
returns-clause-more c =
    both_grown c.args.frame.now.origins.items c.enter.new.self.origins.items c.enter-2.new.self.origins.items c.join.new.self.origins.items
    c.args.frame.now.arcs.items c.enter.new.self.arcs.items c.enter-2.new.self.arcs.items c.join.new.self.arcs.items
    c.args.node c.in_ok-load.load c.in_ok-store.store c.requires.none c.in_ok-load.ensures.origins c.in_ok-load.ensures.arcs c.in_ok-load.ensures.node
    c.in_ok-store.ensures.origins c.in_ok-store.ensures.arcs c.in_ok-store.ensures.node c.join.ensures.origins c.in_ok-join.ensures.added

pub returns-clause-pointers : goal.returns-clause-pointers
returns-clause-pointers c =
    both_pointers c.args.frame.now.origins.items c.enter.new.self.origins.items c.enter-2.new.self.origins.items c.join.new.self.origins.items
    c.args.frame.now.arcs.items c.enter.new.self.arcs.items c.enter-2.new.self.arcs.items c.join.new.self.arcs.items
    c.args.node c.in_ok-load.load c.in_ok-store.store c.requires.none c.in_ok-load.ensures.origins c.in_ok-load.ensures.arcs c.in_ok-load.ensures.node
    c.in_ok-store.ensures.origins c.in_ok-store.ensures.arcs c.in_ok-store.ensures.node c.join.ensures.origins c.in_ok-join.ensures.added c.requires.pointers
