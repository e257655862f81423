use Rattle.std.proofs.Common.{◌≡◌, IfOk, [], All, get_or, flat_map, map, sym, ap, subst, ◌∙◌}
use Rattle.std.proofs.lemmas.Result.{IfOk-weaker}
use Rattle.rt_lines.specs.Lines.{HasConstantsBelow}
use Rattle.rt_rules.specs.Laws.{NamesBase}
use Rattle.rt_lines.specs.Numbering.{deduplicated}
use Rattle.rt_scheme.specs.Splitting.{AreInterfaceLines}
use Rattle.rt_rows.specs.Terms.{lines_by, names_of}
use Rattle.rt_rows.proofs.Grouping.{group-bases, group-constants, group-interfaces}
use Rattle.rt_rows.proofs.numbering.group_lines.Goals as goal

pub returns-clause-lines : goal.returns-clause-lines
returns-clause-lines c =
    let e : c.in_ok-names.names.keys ≡ names_of (flat_map (λ rows. rows) c.args.lists.items) =
    c.in_ok-names.ensures ∙ ap (λ lists. names_of (flat_map (λ rows. rows) lists)) c.deref.ensures.value
    in
    subst (λ names. IfOk c.lists_by.result (λ numbered. numbered.items ≡ map (λ rows. deduplicated (lines_by names rows)) c.args.lists.items)) e c.lists_by.ensures

pub returns-clause-constants : goal.returns-clause-constants
returns-clause-constants c =
    IfOk-weaker c.lists_by.result _ _
    (λ numbered e count h. subst (λ lists. All (All (HasConstantsBelow count)) lists) (sym e) (group-constants count c.args.lists.items h)) (returns-clause-lines c)

pub returns-clause-interfaces : goal.returns-clause-interfaces
returns-clause-interfaces c =
    IfOk-weaker c.lists_by.result _ _
    (λ numbered e h. subst (All AreInterfaceLines) (sym e) (group-interfaces c.args.lists.items h)) (returns-clause-lines c)

pub returns-clause-bases : goal.returns-clause-bases
returns-clause-bases c =
    IfOk-weaker c.lists_by.result _ _
    (λ numbered e i b h. group-bases c.args.lists.items i b (subst (λ lists. NamesBase (get_or lists i []) b) e h)) (returns-clause-lines c)
