use Rattle.std.proofs.Common.{ℕ, List, sym, subst}
use Rattle.std.proofs.lemmas.Result.{IfOk-weaker}
use Rattle.rt_lines.specs.declared.line.Line.{Line}
use Rattle.rt_shape.specs.Graphs.{Graph, IsTree}
use Rattle.rt_shape.specs.Shapes.{IsNaming, ArePairs, IsShapeOf}
use Rattle.rt_shape.specs.Inside.Classes.{AreClasses, IsClosed, IsNumbering, IsQuotient}
use Rattle.rt_shape.proofs.ShapeOf.{shape_of_lines}
use Rattle.rt_shape.proofs.quotient.shape_of.Goals as goal

shaped : (tree : Graph) (pairs : List (ℕ × ℕ)) (class : List ℕ) → IsTree tree → AreClasses tree pairs class → IsClosed tree pairs class →
    (shape : Graph) → (number : List ℕ) × IsNumbering class number shape.count × IsQuotient tree number shape → (lines : List Line) → IsNaming lines tree → ArePairs lines tree pairs → IsShapeOf lines shape
shaped tree pairs class is_tree classes closed shape (number, numbering, quotient) lines naming are =
    shape_of_lines lines tree pairs class number shape is_tree naming are classes closed numbering quotient

pub returns : goal.returns
returns c =
    let classes = subst (AreClasses c.args.tree.now c.args.pairs.now) (sym c.deref.ensures.value) c.in_ok-class.ensures.classes in
    let closed = subst (IsClosed c.args.tree.now c.args.pairs.now) (sym c.deref.ensures.value) c.in_ok-class.ensures.closed in
    IfOk-weaker c.quotient.result _ _ (shaped c.args.tree.now c.args.pairs.now c.deref.result.now c.requires.tree classes closed) c.quotient.ensures
