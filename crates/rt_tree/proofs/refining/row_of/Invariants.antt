use Rattle.std.proofs.Common.{◌≡◌, ◌++◌, length, drop}
use Rattle.std.specs.List.{AllByRecursion}
use Rattle.rt_tree.specs.Trees.{IsEdge}
use Rattle.rt_tree.specs.Partitions.{row_of, edges_row}
use Rattle.rt_tree.proofs.refining.row_of.Given as goal

abbrev pub invariant-loop-label : goal.invariant-loop-label
invariant-loop-label l = record {
  edges : l.label-items ≡ l.node.edges;
  row : l.row.items ++ edges_row l.class (drop l.label-index l.node.edges) ≡ row_of l.class l.own l.node;
  rest : AllByRecursion (IsEdge (length l.class)) (drop l.label-index l.node.edges);
}
