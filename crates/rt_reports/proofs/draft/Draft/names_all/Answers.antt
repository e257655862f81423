use Rattle.rt_reports.proofs.Listings.{named_all}
use Rattle.rt_reports.proofs.draft.Draft.names_all.Goals as goal

pub returns : goal.returns
returns c =
    named_all c.args.self.now.listed.globals c.args.self.now.entries c.args.self.now.unfinished c.args.self.now.named c.args.self.now.least c.are_among.result c.requires.drafted c.are_among.ensures
