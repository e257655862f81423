-- Letters of nodes.
use Rattle.std.specs.Prelude.{◌≡◌, ℕ, ◌<◌, All, Contains, List, [], Some, length, slice_get, slice_index_or}
use Rattle.rt_lines.specs.declared.label.Label.{Label}
use Rattle.rt_lines.specs.Words.{IsLabel}
use Rattle.rt_shape.specs.Graphs.{Graph, step_of}

-- a row for each node: good letters, among them those of its edges that are among the letters
pub record AreRows (graph : Graph) (letters : List Label) (rows : List (List Label)) : Type 0 where
  pub all : (n : ℕ) (l : Label) (m : ℕ) → step_of graph n l ≡ Some m → Contains letters l →
      Contains (slice_index_or rows n []) l
  pub good : (n : ℕ) → All IsLabel (slice_index_or rows n [])

-- rows on the way: those of the edges before an index that are among the letters
pub record AreEntered (graph : Graph) (letters : List Label) (i : ℕ) (rows : List (List Label)) : Type 0 where
  pub size : length rows ≡ graph.count
  pub all : (j n : ℕ) (l : Label) (m : ℕ) → j < i → slice_get graph.edges j ≡ Some ((n, l), m) → Contains letters l →
      Contains (slice_index_or rows n []) l
  pub good : (n : ℕ) → All IsLabel (slice_index_or rows n [])
