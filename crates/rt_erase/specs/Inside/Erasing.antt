-- Graphs that grow by what the pointers of a tree lead to: parts of the way to erasures.
use Rattle.std.specs.Prelude.{◌≡◌, ℕ, ◌+◌, ◌<◌, ◌≤◌, ◌^◌, None, List, length}
use Rattle.rt_lines.specs.declared.label.Label.{Label}
use Rattle.rt_tree.specs.Trees.{Nodes, step_of, node_at, marks_of}
use Rattle.rt_erase.specs.declared.row.Row.{Row}
use Rattle.rt_erase.specs.declared.extremes.Extremes.{Extremes}
use Rattle.rt_erase.specs.Erasures.{AreExtremes, HasNamesAt, erased_step, rows_step}

-- the nodes of a tree can have the numbers of 32 bits from start on, after those of the names that its marks are
pub record HasRoom (extremes : Extremes) (start : ℕ) (tree : Nodes) : Type 0 where
  pub ends : AreExtremes extremes
  pub names : HasNamesAt extremes.count tree
  pub below : extremes.count ≤ start
  pub numbered : start + length tree ≤ 2 ^ 32

-- each node below a number is as it was, and nothing is lost
pub record KeepsBelow (start : ℕ) (old new : Nodes) : Type 0 where
  pub longer : length old ≤ length new
  pub same : (n : ℕ) → n < start → node_at new n ≡ node_at old n

-- nodes without edges stand at the end of a graph, from number start on
pub record HasLeaves (start count : ℕ) (graph : Nodes) : Type 0 where
  pub each : length graph ≡ start + count
  pub marks : (n : ℕ) → n < count → marks_of (node_at graph (start + n)) ≡ (0, 0)
  pub leaves : (n : ℕ) → n < count → (l : Label) → step_of graph (start + n) l ≡ None

-- the nodes of a tree before one have their fields in a graph, that one has these, and those after it have none
pub record IsErasing (extremes : Extremes) (start : ℕ) (tree : Nodes) (node : ℕ) (rows : List Row) (graph : Nodes) : Type 0 where
  pub marks : (n : ℕ) → n < length tree → marks_of (node_at graph (start + n)) ≡ (0, 0)
  pub before : (n : ℕ) → n < node → (l : Label) → step_of graph (start + n) l ≡ erased_step extremes start tree n l
  pub here : node < length tree → (l : Label) → step_of graph (start + node) l ≡ rows_step extremes start tree rows l
  pub after : (n : ℕ) → node < n → n < length tree → (l : Label) → step_of graph (start + n) l ≡ None
