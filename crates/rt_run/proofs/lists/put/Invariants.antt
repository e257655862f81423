use Rattle.rt_run.proofs.Placing.{IsPut}
use Rattle.rt_run.proofs.lists.put.Given as goal

abbrev pub invariant-loop-number : goal.invariant-loop-number
invariant-loop-number l = IsPut l.yielded l.initial.lists.items l.lists.items
