use Rattle.std.proofs.Common.{take}
use Rattle.rt_cdecl.specs.Inside.Guesses.{AreDigits}
use Rattle.rt_cdecl.proofs.parts.split_digits.Given as goal

abbrev pub invariant-loop-k : goal.invariant-loop-k
invariant-loop-k l = AreDigits (take l.k l.text)
