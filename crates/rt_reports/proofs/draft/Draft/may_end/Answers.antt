use Rattle.std.proofs.Common.{◌≤◌, ◌^◌, subst, sym, arith}
use Rattle.rt_reports.specs.Inside.Drafts.{Allows, parts_of}
use Rattle.rt_reports.specs.declared.row.Row.TheVariants.{End}
use Rattle.rt_reports.proofs.Listings.{begun_if}
use Rattle.rt_reports.proofs.draft.Draft.may_end.Goals as goal

pub returns-else-self-from : goal.returns-else-self-from
returns-else-self-from c = (
  λ t. (begun_if c.args.self.now.unfinished (sym c.if-is_some.ensures), λ full. c.names_all.ensures.0 t),
  λ (allowed : Allows (parts_of c.args.self.now) End).
      c.names_all.ensures.1 (allowed.1 (subst (λ n. 2 ^ 32 ≤ n) c.requires.drafted.risen (omega (arith, c.from.ensures, c.if-self-from.false)))),
)
