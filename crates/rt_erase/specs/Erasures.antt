-- Graphs of what pointers lead to, so that two of its nodes are alike where the trees of fields behind them are equal.
use Rattle.std.specs.Prelude.{◌≡◌, ℕ, pos, ◌+◌, ◌<◌, ◌≤◌, Option, None, List, unwrap_or, if◌then◌else◌, length}
use Rattle.std.specs.Option.{option_map}
use Rattle.rt_lines.specs.declared.label.Label.{Label}
use Rattle.rt_lines.specs.declared.label.Label.TheVariants.{Field}
use Rattle.rt_tree.specs.Trees.{Nodes, step_of, node_at, marks_of}
use Rattle.rt_erase.specs.declared.row.Row.{Row}
use Rattle.rt_erase.specs.declared.extremes.Extremes.{Extremes}
use Rattle.rt_erase.specs.Rows.{fields_of, row_at, is_pointer, pointee_of, scalar_number}

-- a graph, and the names of the lattice that its first nodes stand for
pub record Erased : Type 0 where
  pub extremes : Extremes
  pub graph : Nodes

-- the top and the bottom are names
pub record AreExtremes (extremes : Extremes) : Type 0 where
  pub top : extremes.top < extremes.count
  pub bottom : extremes.bottom < extremes.count

-- The node of a graph that a field of a tree leads to, where the tree's nodes stand in the graph from number start on: that of what it
-- points to, or that of the name of a scalar, the number of the name.
abbrev pub target_of : Extremes → ℕ → Nodes → Row → ℕ
target_of extremes start tree row =
    if is_pointer tree row.bits row.node then start + unwrap_or (pointee_of tree row.node) 0 else
    scalar_number extremes.top extremes.bottom (node_at tree row.node)

-- where a label leads from what has these fields
abbrev pub rows_step : Extremes → ℕ → Nodes → List Row → Label → Option ℕ
rows_step extremes start tree rows (Field bits (pos k)) = option_map (target_of extremes start tree) (row_at rows bits k)
rows_step extremes start tree rows other = None

-- where a label leads from what a pointer leads to
abbrev pub erased_step : Extremes → ℕ → Nodes → ℕ → Label → Option ℕ
erased_step extremes start tree n l = rows_step extremes start tree (fields_of (node_at tree n)) l

-- the first nodes of a graph stand for names: each has its number for its lower mark, 1 for its upper one, and no edge
pub record HasNames (count : ℕ) (graph : Nodes) : Type 0 where
  pub within : count ≤ length graph
  pub marks : (k : ℕ) → k < count → marks_of (node_at graph k) ≡ (k, 1)
  pub leaves : (k : ℕ) → k < count → (l : Label) → step_of graph k l ≡ None

-- the nodes of a tree stand in a graph from number start on, each for what a pointer to it leads to
pub record HasErased (extremes : Extremes) (graph : Nodes) (start : ℕ) (tree : Nodes) : Type 0 where
  pub within : start + length tree ≤ length graph
  pub marks : (n : ℕ) → n < length tree → marks_of (node_at graph (start + n)) ≡ (0, 0)
  pub steps : (n : ℕ) → n < length tree → (l : Label) → step_of graph (start + n) l ≡ erased_step extremes start tree n l

-- the marks of a tree's nodes are names
abbrev pub HasNamesAt : ℕ → Nodes → Type 0
HasNamesAt count tree = (n : ℕ) → n < length tree → ((node_at tree n).low < count) × ((node_at tree n).up < count)

-- each node of a graph is as it was, where the graph has grown
pub record HasGrown (old new : Nodes) : Type 0 where
  pub longer : length old ≤ length new
  pub same : (n : ℕ) → n < length old → node_at new n ≡ node_at old n
