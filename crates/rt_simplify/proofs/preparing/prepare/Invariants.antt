use Rattle.std.proofs.Common.{List}
use Rattle.rt_lines.specs.declared.line.Line.{Line}
use Rattle.rt_lines.specs.FlowCounts.{flow_count}
use Rattle.rt_reduction.specs.Rounds.{Prepares}
use Rattle.rt_simplify.specs.Inside.Preparing.{IsOnce}
use Rattle.rt_simplify.proofs.preparing.prepare.Given as goal

abbrev pub invariant-loop-left : goal.invariant-loop-left
invariant-loop-left l =
    (before : List Line) × IsOnce before l.left × ((left : List Line) → Prepares left before → Prepares left l.fn.lines)

abbrev pub decreases-loop-left : goal.decreases-loop-left
decreases-loop-left l = flow_count l.left
