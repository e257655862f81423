use Rattle.rt_shape.specs.Inside.Classes.{AreClasses}
use Rattle.rt_shape.proofs.Classed.{total}
use Rattle.rt_shape.proofs.closing.closed.Given as goal

abbrev pub invariant-loop-class : goal.invariant-loop-class
invariant-loop-class l = AreClasses l.tree l.pairs l.class.items

abbrev pub decreases-loop-class : goal.decreases-loop-class
decreases-loop-class l = total l.class.items
