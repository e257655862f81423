use Rattle.std.proofs.Common.{take}
use Rattle.rt_polar.specs.Index.{has}
use Rattle.rt_twins.specs.Inside.Leading.{AreArrows}
use Rattle.rt_twins.proofs.arrows.arrows.Given as goal

abbrev pub invariant-loop-line : goal.invariant-loop-line
invariant-loop-line l = AreArrows l.sign (take l.line-index l.lines) (has l.found)
