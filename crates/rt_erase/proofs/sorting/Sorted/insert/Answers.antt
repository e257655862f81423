use Rattle.std.proofs.Common.{sym, ap, subst, ◌∙◌}
use Rattle.rt_erase.specs.Rows.{label_of, with_row}
use Rattle.rt_erase.specs.Inside.Sorting.{rows_in, AreOthers}
use Rattle.rt_erase.proofs.Ordered.{inserted}
use Rattle.rt_erase.proofs.sorting.Sorted.insert.Goals as goal

pub returns : goal.returns
returns c =
    let row = c.args.row in
    ap rows_in c.in_ok-insert.ensures.entries
    ∙ (inserted row c.self.inside.nodes.entries (subst (AreOthers (label_of row)) (sym c.self.view_is) c.requires)
    ∙ ap (λ rows. with_row rows row) c.self.view_is)
