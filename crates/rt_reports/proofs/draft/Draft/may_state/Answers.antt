use Rattle.std.proofs.Common.{sym}
use Rattle.rt_reports.specs.Inside.Drafts.{Allows, parts_of}
use Rattle.rt_reports.specs.declared.row.Row.TheVariants.{Stated}
use Rattle.rt_reports.proofs.Listings.{begun_if}
use Rattle.rt_reports.proofs.draft.Draft.may_state.Goals as goal

pub returns-then-is_some : goal.returns-then-is_some
returns-then-is_some c = (
  λ t. (begun_if c.args.self.now.unfinished (sym c.if-is_some.ensures), c.lists_line.ensures.0 t),
  λ (allowed : Allows (parts_of c.args.self.now) (Stated c.args.line.now)). c.lists_line.ensures.1 allowed.1,
)
