-- Laws of shapes.
use Rattle.std.specs.Prelude.{◌≡◌, ℕ, ◌↔◌, List, Some}
use Rattle.rt_lines.specs.declared.label.Label.{Label}
use Rattle.rt_lines.specs.declared.label.Label.TheVariants.{Load, Store}
use Rattle.rt_lines.specs.declared.variable.Dtv.{Dtv}
use Rattle.rt_lines.specs.declared.line.Line.{Line}
use Rattle.rt_lines.specs.declared.line.Line.TheVariants.{Var}
use Rattle.rt_lines.specs.Orders.{Below}
use Rattle.rt_rules.specs.Rules.{longer, Derivable}
use Rattle.rt_shape.specs.Graphs.{Graph, node_of, step_of, IsReadWrite}
use Rattle.rt_shape.specs.Shapes.{IsShapeOf}

-- a step from the node of a variable leads to the node of the variable with that letter more
abbrev pub StepLaw : Type 0
StepLaw = (graph : Graph) (x : Dtv) (l : Label) (n : ℕ) → node_of graph x ≡ Some n →
    node_of graph (longer x l) ≡ step_of graph n l

-- a node has a load and a store exactly if each of its variables has both
abbrev pub ReadWriteLaw : Type 0
ReadWriteLaw =
    (lines : List Line) (graph : Graph) (order : Below) (x : Dtv) (n : ℕ) → IsShapeOf lines graph → node_of graph x ≡ Some n →
    IsReadWrite graph n ↔ (Derivable order lines (Var (longer x Load)) × Derivable order lines (Var (longer x Store)))
