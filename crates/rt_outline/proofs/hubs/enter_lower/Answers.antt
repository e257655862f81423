use Rattle.rt_outline.proofs.Lowest.{lowest_onward, lowest_own}
use Rattle.rt_outline.proofs.Gathered.{stepped_same}
use Rattle.rt_outline.proofs.hubs.enter_lower.Goals as goal

pub returns-then-has_lower-clause-more : goal.returns-then-has_lower-clause-more
returns-then-has_lower-clause-more c = stepped_same c.args.frame.now.origins.items c.args.frame.now.arcs.items

pub returns-then-has_lower-clause-lowest : goal.returns-then-has_lower-clause-lowest
returns-then-has_lower-clause-lowest c =
    lowest_onward c.args.frame.now.origins.items c.args.frame.now.arcs.items c.args.flips.now c.args.node (c.has_lower.ensures c.if-has_lower.true) c.requires.before

pub returns-clause-lowest : goal.returns-clause-lowest
returns-clause-lowest c =
    lowest_own c.enter_access.new.frame.origins.items c.enter_access.new.frame.arcs.items c.args.node c.in_ok-enter_access.ensures.access
