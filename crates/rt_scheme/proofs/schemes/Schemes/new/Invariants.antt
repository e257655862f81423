use Rattle.std.proofs.Common.{◌≡◌, None, replicate}
use Rattle.rt_scheme.proofs.schemes.Schemes.new.Given as goal

abbrev pub invariant-loop : goal.invariant-loop
invariant-loop l = l.schemes.items ≡ replicate l.counter None
