use Rattle.std.proofs.Common.{◌≡◌}
use Rattle.rt_make.specs.Made.{made_code}
use Rattle.rt_make.proofs.made.code_of.Given as goal

abbrev pub invariant-loop-procedure : goal.invariant-loop-procedure
invariant-loop-procedure l = l.code.items ≡ made_code l.procedure
