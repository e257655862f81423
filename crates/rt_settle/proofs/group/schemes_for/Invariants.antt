use Rattle.rt_settle.proofs.Grouping.{AreSchemesBelow}
use Rattle.rt_settle.proofs.group.schemes_for.Given as goal

abbrev pub invariant-loop-member : goal.invariant-loop-member
invariant-loop-member l = AreSchemesBelow l.order l.member-index l.members l.settled l.schemes.items
