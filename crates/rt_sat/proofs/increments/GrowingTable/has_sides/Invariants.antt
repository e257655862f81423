use Rattle.std.proofs.Common.{◌⊎◌, Contains}
use Rattle.rt_lines.specs.declared.variable.Dtv.{Dtv}
use Rattle.rt_lines.specs.Sides.{sides}
use Rattle.rt_lines.specs.SidesLeft.{sides_left}
use Rattle.rt_sat.proofs.increments.GrowingTable.has_sides.Given as goal

abbrev pub invariant-loop-side : goal.invariant-loop-side
invariant-loop-side l = (x : Dtv) → Contains (sides l.line) x → Contains l.self.frame.named x ⊎ Contains (sides_left l.side-iterator) x
