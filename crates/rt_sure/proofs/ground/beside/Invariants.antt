use Rattle.rt_sure.specs.Fates.{AreSure}
use Rattle.rt_sure.proofs.ground.beside.Given as goal

abbrev pub invariant-loop-i : goal.invariant-loop-i
invariant-loop-i l = AreSure l.lines l.stands l.beside.items
