use Rattle.std.proofs.Common.{Contains}
use Rattle.rt_lines.specs.declared.variable.Dtv.{Dtv}
use Rattle.rt_equals.proofs.growing.marked_sides.Given as goal

abbrev pub invariant-loop-line : goal.invariant-loop-line
invariant-loop-line l = (x : Dtv) → Contains l.sides.items x → Contains l.named x
