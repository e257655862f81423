use Rattle.std.proofs.Common.{List}
use Rattle.rt_lines.specs.declared.line.Line.{Line}
use Rattle.rt_reduction.specs.Rounds.{Splits}
use Rattle.rt_simplify.proofs.Bounding.{splits_of}
use Rattle.rt_simplify.proofs.splitting.split_records.Given as goal

abbrev pub invariant-loop-left : goal.invariant-loop-left
invariant-loop-left l = (left : List Line) → Splits left l.left → Splits left l.fn.lines

abbrev pub decreases-loop-left : goal.decreases-loop-left
decreases-loop-left l = splits_of l.left
