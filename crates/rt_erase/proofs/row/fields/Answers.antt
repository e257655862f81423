use Rattle.std.proofs.Common.{◌≡◌, [], All, length, sym, ap, subst, ◌∙◌}
use Rattle.std.specs.List.{flat_map}
use Rattle.std.proofs.lemmas.Result.{IfOk-weaker}
use Rattle.rt_tree.specs.Trees.{node_at}
use Rattle.rt_erase.specs.Rows.{AreApart, IsRow, fields_of, kept_from, row_of, sorted_with}
use Rattle.rt_erase.proofs.Kept.{fields_rows, kept_apart}
use Rattle.rt_erase.proofs.row.fields.Goals as goal

pub returns-clause-each : goal.returns-clause-each
returns-clause-each c =
    let tree = c.args.tree.now in
    let sorted = c.in_ok-sorted.sorted in
    let same : kept_from 0 sorted ≡ fields_of (node_at tree c.args.node) =
    ap (kept_from 0) (c.in_ok-sorted.ensures ∙ ap (λ edges. sorted_with [] (flat_map row_of edges)) c.edges.ensures) in
    IfOk-weaker c.keep.result (λ rows. rows.items ≡ kept_from 0 sorted) (λ rows. All (IsRow (length tree)) rows.items)
    (λ rows e. subst (All (IsRow (length tree))) (sym (e ∙ same)) (fields_rows tree c.args.node c.size-size.ensures.tree c.requires)) c.keep.ensures

pub returns-clause-apart : goal.returns-clause-apart
returns-clause-apart c =
    let sorted = c.in_ok-sorted.sorted in
    IfOk-weaker c.keep.result (λ rows. rows.items ≡ kept_from 0 sorted) (λ rows. AreApart 0 rows.items)
    (λ rows e. subst (AreApart 0) (sym e) (kept_apart 0 sorted)) c.keep.ensures
