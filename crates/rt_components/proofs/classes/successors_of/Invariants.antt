use Rattle.rt_components.specs.Inside.Classes.{AreSuccessors}
use Rattle.rt_components.proofs.classes.successors_of.Given as goal

abbrev pub invariant-loop-node : goal.invariant-loop-node
invariant-loop-node l = AreSuccessors l.graph l.classes.class.items l.classes.count l.node l.successors.items
