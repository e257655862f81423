use Rattle.std.proofs.Common.{◌+◌, List, length}
use Rattle.rt_lines.specs.declared.line.Line.{Line}
use Rattle.rt_lines.specs.Orders.{Below}
use Rattle.rt_shape.specs.Shapes.{IsShapeOf}
use Rattle.rt_emit.specs.Inside.Bases.{AreFirst}
use Rattle.rt_emit.specs.Inside.Writing.{total}
use Rattle.rt_emit.proofs.Turning.{IsWritingOf}
use Rattle.rt_emit.proofs.writing.write_queued.Given as goal

abbrev pub invariant-loop-x : goal.invariant-loop-x
invariant-loop-x l =
    (lines : List Line) (order : Below) (is_shape : IsShapeOf lines l.shape) → AreFirst lines l.fn.queue →
    IsWritingOf order lines l.shape is_shape l.letters l.words l.queue l.written.items

abbrev pub decreases-loop-x : goal.decreases-loop-x
decreases-loop-x l = total l.letters + length l.queue
