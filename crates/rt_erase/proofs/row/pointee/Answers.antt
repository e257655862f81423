use Rattle.std.proofs.Common.{◌≡◌, ℕ, ◌<◌, IfSome, length, sym, subst, ◌∙◌}
use Rattle.std.specs.List.{AllByRecursion}
use Rattle.rt_lines.specs.declared.label.Label.{Label}
use Rattle.rt_lines.specs.Words.{IsLabel}
use Rattle.rt_tree.specs.Trees.{AreOrdered, node_at}
use Rattle.rt_tree.proofs.Edges.{labels_of}
use Rattle.rt_erase.specs.Rows.{pointee_of}
use Rattle.rt_erase.proofs.Kept.{pointee_by, pointee_within, tree_edges}
use Rattle.rt_erase.proofs.row.pointee.Goals as goal

pub load_in-requires : goal.load_in-requires
load_in-requires c = subst AreOrdered (sym c.edges-edges.ensures) (tree_edges c.args.tree.now c.args.node c.size-size.ensures.tree c.requires).ordered

pub store_in-requires-clause-ordered : goal.store_in-requires-clause-ordered
store_in-requires-clause-ordered c =
    subst AreOrdered (sym c.edges-edges.ensures) (tree_edges c.args.tree.now c.args.node c.size-size.ensures.tree c.requires).ordered

pub store_in-requires-clause-labels : goal.store_in-requires-clause-labels
store_in-requires-clause-labels c =
    let tree = c.args.tree.now in
    subst (AllByRecursion (λ (edge : Label × ℕ). IsLabel edge.0)) (sym c.edges-edges.ensures)
    (labels_of (length tree) (node_at tree c.args.node).edges (tree_edges tree c.args.node c.size-size.ensures.tree c.requires))

pub returns-clause-within : goal.returns-clause-within
returns-clause-within c =
    let tree = c.args.tree.now in
    let n = c.args.node in
    let same : c.or.result ≡ pointee_of tree n =
    c.or.ensures ∙ pointee_by tree n c.edges-edges.result.now c.load_in.result c.store_in.result c.edges-edges.ensures c.load_in.ensures c.store_in.ensures in
    subst (λ o. IfSome o (λ m. m < length tree)) (sym same) (pointee_within tree n c.size-size.ensures.tree c.requires)
