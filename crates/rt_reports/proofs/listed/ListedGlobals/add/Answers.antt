use Rattle.rt_reports.proofs.Listings.{listing_pushed}
use Rattle.rt_reports.proofs.listed.ListedGlobals.add.Goals as goal

pub returns-clause-kept : goal.returns-clause-kept
returns-clause-kept c =
    listing_pushed _ _ _ c.args.number c.args.name c.push.new.self c.add.new.self c.from.result c.requires c.in_ok-push.ensures.ok c.in_ok-add.ensures c.from.ensures
