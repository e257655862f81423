use Rattle.std.proofs.Common.{◌≡◌}
use Rattle.rt_make.specs.Made.{made_symbols}
use Rattle.rt_make.proofs.made.symbols_of.Given as goal

abbrev pub invariant-loop-procedure : goal.invariant-loop-procedure
invariant-loop-procedure l = l.symbols.items ≡ made_symbols l.procedure
