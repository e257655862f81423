use Rattle.rt_reports.proofs.Listings.{listed_has}
use Rattle.rt_reports.proofs.listed.ListedGlobals.has.Goals as goal

pub returns : goal.returns
returns c = listed_has _ _ _ c.args.number c.has.result c.requires c.has.ensures
