use Rattle.std.proofs.Common.{◌≡◌, replicate, None}
use Rattle.rt_outline.proofs.turning.nothing.Given as goal

abbrev pub invariant-loop : goal.invariant-loop
invariant-loop l = l.known.items ≡ replicate l.counter None
