-- Laws of sketches.
use Rattle.std.specs.Prelude.{◌≡◌, ℕ, List}
use Rattle.rt_lines.specs.declared.line.Line.{Line}
use Rattle.rt_lines.specs.Orders.{Below, IsAtOrBelow}
use Rattle.rt_lattice.specs.Bounds.{IsAntisymmetric}
use Rattle.rt_tree.specs.Trees.{Nodes, IsTree}
use Rattle.rt_sketch.specs.Sketches.{HasOneEnd, IsSketchOf}

-- in a sketch by an order the load and the store of a node lead to one node
abbrev pub OneEndLaw : Type 0
OneEndLaw = (order : Below) (own : ℕ) (lines : List Line) (tree : Nodes) → IsAntisymmetric (IsAtOrBelow order) order.count →
    IsTree tree → IsSketchOf order own lines tree → HasOneEnd tree

-- lines have one sketch for a procedure, by an order
abbrev pub OneSketch : Type 0
OneSketch = (order : Below) (own : ℕ) (lines : List Line) (first second : Nodes) → IsAntisymmetric (IsAtOrBelow order) order.count →
    IsTree first → IsTree second → IsSketchOf order own lines first → IsSketchOf order own lines second → first ≡ second
