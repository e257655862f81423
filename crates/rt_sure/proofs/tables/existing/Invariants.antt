use Rattle.std.proofs.Common.{List}
use Rattle.rt_lines.specs.declared.line.Line.{Line}
use Rattle.rt_shape.specs.Shapes.{IsShapeOf}
use Rattle.rt_sat.specs.Tables.{AreThere}
use Rattle.rt_sure.proofs.tables.existing.Given as goal

abbrev pub invariant-loop-x : goal.invariant-loop-x
invariant-loop-x l = (lines : List Line) → IsShapeOf lines l.shape → AreThere lines l.existing.items
