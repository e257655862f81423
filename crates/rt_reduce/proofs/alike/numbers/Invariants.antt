use Rattle.std.proofs.Common.{take}
use Rattle.rt_reduce.specs.Inside.Alike.{AreNumbered}
use Rattle.rt_reduce.proofs.alike.numbers.Given as goal

abbrev pub invariant-loop-side : goal.invariant-loop-side
invariant-loop-side l = AreNumbered l.comparison.named l.equals (take l.side-index l.sides) l.numbers.items
