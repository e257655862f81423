use Rattle.rt_components.specs.Inside.Classes.{AreMembers}
use Rattle.rt_components.proofs.classes.members_of.Given as goal

abbrev pub invariant-loop-node : goal.invariant-loop-node
invariant-loop-node l = AreMembers l.classes.class.items l.classes.count l.node l.members.items
