use Rattle.rt_sure.specs.Inside.Shapes.{AreShaped}
use Rattle.rt_sure.proofs.shapes.shaped.Given as goal

abbrev pub invariant-loop-i : goal.invariant-loop-i
invariant-loop-i l = AreShaped l.lines l.stays l.shaped.items
