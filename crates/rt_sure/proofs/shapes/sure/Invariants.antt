use Rattle.rt_sure.specs.Fates.{AreSure}
use Rattle.rt_sure.proofs.shapes.sure.Given as goal

abbrev pub invariant-loop-i : goal.invariant-loop-i
invariant-loop-i l = AreSure l.lines l.stays l.sure.items
