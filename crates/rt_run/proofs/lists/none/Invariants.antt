use Rattle.std.proofs.Common.{◌≡◌, None, replicate}
use Rattle.rt_run.proofs.lists.none.Given as goal

abbrev pub invariant-loop : goal.invariant-loop
invariant-loop l = l.lists.items ≡ replicate l.counter None
