use Rattle.std.proofs.Common.{◌≡◌, ℕ, List, All, sym, ap, subst, ◌∙◌}
use Rattle.rt_tree.specs.Trees.{Nodes, node_at}
use Rattle.rt_erase.specs.declared.row.Row.{Row}
use Rattle.rt_erase.specs.Rows.{fields_of}
use Rattle.rt_cdecl.specs.declared.declarations.CField.{CField}
use Rattle.rt_cdecl.specs.declared.declarations.CStruct.{CStruct}
use Rattle.rt_cdecl.specs.Types.{IsField}
use Rattle.rt_header.specs.Inside.Built.{AreFieldsOf, tree_of}
use Rattle.rt_header.proofs.Fields.{is_good}
use Rattle.rt_header.proofs.structs.struct_of.Goals as goal

pub returns-clause-good : goal.returns-clause-good
returns-clause-good c =
    let forest = c.args.forest.now in
    let new = c.fields_of.new.making.structs.items in
    let at : ℕ × ℕ = c.index.result.now in
    let struct : CStruct = record { number = c.args.number; fields = c.from_vec.result } in
    let rows : c.deref.result.now ≡ fields_of (node_at (tree_of forest at.0) at.1) =
    c.deref.ensures.value ∙ (c.in_ok-rows.ensures.rows ∙ ap (λ (t : Nodes). fields_of (node_at t at.1)) c.tree.ensures.tree) in
    let fields : AreFieldsOf forest new at.0 (fields_of (node_at (tree_of forest at.0) at.1)) struct.fields =
    subst (AreFieldsOf forest new at.0 (fields_of (node_at (tree_of forest at.0) at.1))) (sym c.from_vec.ensures)
    (subst (λ (rs : List Row). AreFieldsOf forest new at.0 rs c.in_ok-fields.fields.items) rows c.in_ok-fields.ensures.built) in
    is_good forest new at struct (subst (λ (fs : List CField). All IsField fs) (sym c.from_vec.ensures) c.in_ok-fields.ensures.good) fields
