use Rattle.std.proofs.Common.{Contains}
use Rattle.rt_lines.specs.declared.line.Line.{Line}
use Rattle.rt_reduce.proofs.inner.other_bounds.Given as goal

abbrev pub invariant-loop-j : goal.invariant-loop-j
invariant-loop-j l = (k : Line) → Contains l.others.items k → Contains l.lines k
