use Rattle.rt_sat.specs.Hints.{AreGroups}
use Rattle.rt_sat.proofs.hints.groups.Given as goal

abbrev pub invariant-loop-number : goal.invariant-loop-number
invariant-loop-number l = AreGroups l.family l.groups.items
