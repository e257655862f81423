use Rattle.std.proofs.Common.{◌≡◌, All, length, take}
use Rattle.rt_tree.specs.Trees.{node_at}
use Rattle.rt_erase.specs.Rows.{AreApart, IsRow, fields_of}
use Rattle.rt_erase.specs.Inside.Erasing.{IsErasing, KeepsBelow}
use Rattle.rt_erase.proofs.erasing.add_fields.Given as goal

abbrev pub invariant-loop-row : goal.invariant-loop-row
invariant-loop-row l = record {
  rows : l.row-items ≡ fields_of (node_at l.tree l.node);
  each : All (IsRow (length l.tree)) l.row-items;
  apart : AreApart 0 l.row-items;
  kept : KeepsBelow l.start l.fn.graph l.graph;
  erasing : IsErasing l.extremes l.start l.tree l.node (take l.row-index l.row-items) l.graph;
}
