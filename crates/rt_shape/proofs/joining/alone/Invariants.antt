use Rattle.rt_shape.specs.Inside.Joins.{AreAlone}
use Rattle.rt_shape.proofs.joining.alone.Given as goal

abbrev pub invariant-loop-node : goal.invariant-loop-node
invariant-loop-node l = AreAlone l.node l.members.items
