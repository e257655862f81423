use Rattle.std.proofs.Common.{◌≡◌, ◌+◌, ◌<◌, ◌≤◌, [], ◌∷◌, ◌++◌, All, length, get_or, take, sym, subst, ◌∙◌, arith, rules}
use Rattle.std.proofs.lemmas.List.{take_all, take_more}
use Rattle.std.proofs.lemmas.List.Elements.{All-get_or}
use Rattle.rt_tree.specs.Trees.{joined}
use Rattle.rt_erase.specs.declared.row.Row.{Row}
use Rattle.rt_erase.specs.Rows.{AreApart, IsRow, label_of}
use Rattle.rt_erase.specs.Erasures.{target_of}
use Rattle.rt_erase.specs.Inside.Erasing.{IsErasing, KeepsBelow}
use Rattle.rt_erase.proofs.Kept.{first_there}
use Rattle.rt_erase.proofs.Growing.{erasing_field, erasing_next, free_field, keeps_itself, keeps_joined, keeps_then}
use Rattle.rt_erase.proofs.erasing.add_fields.Goals as goal

pub loop-row-init : goal.loop-row-init
loop-row-init c =
    let items = c.deref-row-items.ensures.value in
    record {
      rows = items ∙ c.in_ok-rows.ensures.rows;
      each = subst (All (IsRow (length c.args.tree.now))) (sym items) c.in_ok-rows.ensures.each;
      apart = subst (AreApart 0) (sym items) c.in_ok-rows.ensures.apart;
      kept = keeps_itself c.args.start c.args.graph.now;
      erasing = c.requires.erasing;
    }

pub add_field-requires-clause-within : goal.add_field-requires-clause-within
add_field-requires-clause-within c = let longer = c.loop-row.invariant.kept.longer in omega arith

pub add_field-requires-clause-row : goal.add_field-requires-clause-row
add_field-requires-clause-row c =
    let rows = c.deref-row-items.result.now in
    let k = c.loop-row.row-index in
    let less : k < length rows = search rules in
    let d : Row = record { offset = 0; bits = 0; node = 0 } in
    All-get_or (IsRow (length c.args.tree.now)) rows k d less c.loop-row.invariant.each

pub add_field-requires-clause-free : goal.add_field-requires-clause-free
add_field-requires-clause-free c =
    let tree = c.args.tree.now in
    let rows = c.deref-row-items.result.now in
    let k = c.loop-row.row-index in
    let less : k < length rows = search rules in
    let d : Row = record { offset = 0; bits = 0; node = 0 } in
    let none = first_there (length tree) 0 rows k d c.loop-row.invariant.apart c.loop-row.invariant.each less in
    free_field c.args.extremes c.args.start tree c.args.node (take k rows) c.loop-row.graph (get_or rows k d) c.requires.node none c.loop-row.invariant.erasing

pub returns-in_err-add_field-clause-kept : goal.returns-in_err-add_field-clause-kept
returns-in_err-add_field-clause-kept c =
    subst (KeepsBelow c.args.start c.args.graph.now) (sym c.in_err-add_field.ensures.err) c.loop-row.invariant.kept

pub loop-row-preserved : goal.loop-row-preserved
loop-row-preserved c =
    let extremes = c.args.extremes in
    let start = c.args.start in
    let tree = c.args.tree.now in
    let node = c.args.node in
    let graph = c.loop-row.graph in
    let new = c.add_field.new.graph in
    let rows = c.deref-row-items.result.now in
    let k = c.loop-row.row-index in
    let less : k < length rows = search rules in
    let d : Row = record { offset = 0; bits = 0; node = 0 } in
    let row : Row = get_or rows k d in
    let is : new ≡ joined graph (start + node) (label_of row) (target_of extremes start tree row) = c.in_ok-add_field.ensures.ok in
    let longer : length c.args.graph.now ≤ length graph = c.loop-row.invariant.kept.longer in
    let within : start + length tree ≤ length graph = omega arith in
    let none = first_there (length tree) 0 rows k d c.loop-row.invariant.apart c.loop-row.invariant.each less in
    record {
      rows = c.loop-row.invariant.rows;
      each = c.loop-row.invariant.each;
      apart = c.loop-row.invariant.apart;
      kept =
          keeps_then start c.args.graph.now graph new c.loop-row.invariant.kept
          (subst (KeepsBelow start graph) (sym is) (keeps_joined start node graph (label_of row) (target_of extremes start tree row)));
      erasing =
          subst (λ done. IsErasing extremes start tree node done new) (sym (take_more rows k d less))
          (subst (IsErasing extremes start tree node (take k rows ++ row ∷ [])) (sym is)
          (erasing_field extremes start tree node (take k rows) graph row c.requires.node within none c.loop-row.invariant.erasing));
    }

pub returns-clause-kept : goal.returns-clause-kept
returns-clause-kept c = c.loop-row.invariant.kept

pub returns-clause-erasing : goal.returns-clause-erasing
returns-clause-erasing c =
    let extremes = c.args.extremes in
    let start = c.args.start in
    let tree = c.args.tree.now in
    let node = c.args.node in
    let rows = c.deref-row-items.result.now in
    let k = c.loop-row.row-index in
    let all : length rows ≤ k = search rules in
    erasing_next extremes start tree node c.loop-row.graph c.requires.node
    (subst (λ done. IsErasing extremes start tree node done c.loop-row.graph) (take_all k rows all ∙ c.loop-row.invariant.rows) c.loop-row.invariant.erasing)
