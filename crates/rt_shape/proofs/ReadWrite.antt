-- Nodes with a load and a store.
use Rattle.std.proofs.Common.{◌≡◌, ℕ, Some, IsSome, List, subst}
use Rattle.std.specs.Prelude.{◌↔◌}
use Rattle.rt_lines.specs.declared.label.Label.{Label}
use Rattle.rt_lines.specs.declared.label.Label.TheVariants.{Load, Store}
use Rattle.rt_lines.specs.declared.variable.Dtv.{Dtv}
use Rattle.rt_lines.specs.declared.line.Line.{Line}
use Rattle.rt_lines.specs.declared.line.Line.TheVariants.{Var}
use Rattle.rt_lines.specs.Orders.{Below}
use Rattle.rt_rules.specs.Rules.{longer, Derivable}
use Rattle.rt_shape.specs.Graphs.{Graph, node_of, step_of}
use Rattle.rt_shape.specs.Shapes.{IsShapeOf}
use Rattle.rt_shape.specs.Laws.{StepLaw, ReadWriteLaw}
use Rattle.rt_shape.proofs.Walks.{node_of-longer}

pub step_lem : StepLaw
step_lem graph x l n e = node_of-longer graph x l n e

-- a step is there exactly if the variable with that letter more is
step_there : (lines : List Line) (graph : Graph) (order : Below) (x : Dtv) (n : ℕ) (l : Label) → IsShapeOf lines graph → node_of graph x ≡ Some n → IsSome (step_of graph n l) ↔ Derivable order lines (Var (longer x l))
step_there lines graph order x n l shape e = subst (λ o. IsSome o ↔ Derivable order lines (Var (longer x l))) (node_of-longer graph x l n e) (shape.there order (longer x l))

pub read_write_lem : ReadWriteLaw
read_write_lem lines graph order x n shape e =
    let load = step_there lines graph order x n Load shape e in
    let store = step_there lines graph order x n Store shape e in
    (λ h. (load.0 h.0, store.0 h.1), λ h. (load.1 h.0, store.1 h.1))
