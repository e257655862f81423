use Rattle.rt_reports.specs.Inside.Drafts.{IsWhole, parts_of}
use Rattle.rt_reports.proofs.Listings.{none_if}
use Rattle.rt_reports.proofs.draft.Draft.is_whole.Goals as goal

pub returns-then-is_none : goal.returns-then-is_none
returns-then-is_none c = (
  λ t. (none_if c.args.self.now.unfinished c.if-is_none.ensures, c.names_all.ensures.0 t),
  λ (whole : IsWhole (parts_of c.args.self.now)). c.names_all.ensures.1 whole.1,
)
