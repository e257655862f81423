use Rattle.std.proofs.Common.{List, length}
use Rattle.rt_lines.specs.declared.line.Line.{Line}
use Rattle.rt_polar.specs.Puts.{Puts}
use Rattle.rt_polar.specs.Tidied.{tidied}
use Rattle.rt_reduction.specs.Simplifies.{Simplifies}
use Rattle.rt_simplify.proofs.simplifying.simplify.Given as goal

abbrev pub invariant-loop-left : goal.invariant-loop-left
invariant-loop-left l =
    (before : List Line) × Puts l.left before × ((left : List Line) → Simplifies left before → Simplifies left (tidied l.fn.lines))

abbrev pub decreases-loop-left : goal.decreases-loop-left
decreases-loop-left l = length l.left
