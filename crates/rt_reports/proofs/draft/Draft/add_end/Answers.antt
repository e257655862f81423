use Rattle.std.proofs.Common.{inr, refl}
use Rattle.rt_reports.proofs.Listings.{not_so}
use Rattle.rt_reports.proofs.draft.Draft.add_end.Goals as goal

pub returns-then-not-may_end : goal.returns-then-not-may_end
returns-then-not-may_end c = inr (refl, not_so c.if-not-may_end.ensures)

pub returns-in-Ok : goal.returns-in-Ok
returns-in-Ok c = (c.may_end.ensures.0 c.if-not-may_end.false, c.in-Ok.ensures.after, c.in-Ok.ensures.kept)
