-- Trees that have the words and marks of a sketch, whether or not they are the least ones.
use Rattle.std.specs.Prelude.{◌≡◌, ◌↔◌, ℕ, Some, IsSome, List}
use Rattle.rt_lines.specs.declared.label.Label.{Label}
use Rattle.rt_lines.specs.declared.line.Line.{Line}
use Rattle.rt_lines.specs.Orders.{Below}
use Rattle.rt_tree.specs.Trees.{Nodes, walk, marks_from}
use Rattle.rt_sketch.specs.Sketches.{AreMarks, IsAdmitted, of_procedure}

-- the tree has just the words that the lines admit for the procedure, with the marks of what they lead to
pub record IsUnfolded (order : Below) (own : ℕ) (lines : List Line) (tree : Nodes) : Type 0 where
  pub words : (w : List Label) → IsSome (walk tree 0 w) ↔ IsAdmitted order lines own w
  pub marks : (w : List Label) (m : ℕ × ℕ) → marks_from tree 0 w ≡ Some m → AreMarks order lines (of_procedure own w) m
