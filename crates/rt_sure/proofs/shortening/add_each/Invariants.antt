use Rattle.std.proofs.Common.{ℕ, List, All}
use Rattle.rt_lines.specs.declared.line.Line.{Line}
use Rattle.rt_lines.specs.Lines.{HasConstantsBelow}
use Rattle.rt_lines.specs.Orders.{Below}
use Rattle.rt_shape.specs.Shapes.{IsShapeOf}
use Rattle.rt_sure.specs.Fates.{DerivesAll}
use Rattle.rt_sure.proofs.shortening.add_each.Given as goal

abbrev pub invariant-loop-line : goal.invariant-loop-line
invariant-loop-line l = record {
  derived : (order : Below) (lines : List Line) → IsShapeOf lines l.shape → DerivesAll order lines l.fn.short.items → DerivesAll order lines l.short.items;
  unbounded : (count : ℕ) → All (HasConstantsBelow count) l.fn.short.items → All (HasConstantsBelow count) l.short.items;
}
