use Rattle.std.proofs.Common.{inr, refl, ap}
use Rattle.rt_reports.proofs.Drafts.{made}
use Rattle.rt_reports.proofs.Listings.{not_so}
use Rattle.rt_reports.proofs.draft.Draft.add_global.Goals as goal

pub returns-then-not-may_list : goal.returns-then-not-may_list
returns-then-not-may_list c = inr (refl, not_so (c.if-not-may_list.ensures c.args.name))

pub returns-in-Ok : goal.returns-in-Ok
returns-in-Ok c = (
  (c.may_list.ensures c.args.name).0 c.if-not-may_list.false,
  ap (λ globals. made globals c.args.self.now.entries c.args.self.now.unfinished) c.in-Ok.ensures.more,
  record { listing = c.in-Ok.ensures.kept; drafted = c.requires.drafted },
)
