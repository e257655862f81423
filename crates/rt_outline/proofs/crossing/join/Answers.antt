use Rattle.rt_outline.proofs.Gathered.{grown_joined, stepped_same}
use Rattle.rt_outline.proofs.crossing.join.Goals as goal

pub returns-clause-more : goal.returns-clause-more
returns-clause-more c =
    grown_joined c.args.frame.now.origins.items c.args.frame.now.origins.items c.join.new.self.origins.items c.args.frame.now.arcs.items c.args.frame.now.arcs.items c.join.new.self.arcs.items
    _ _ (stepped_same c.args.frame.now.origins.items c.args.frame.now.arcs.items) c.in_ok-join.ensures.origins c.in_ok-join.ensures.added
