use Rattle.std.proofs.Common.{Contains, take}
use Rattle.rt_named.specs.Numbers.{IsLeft}
use Rattle.rt_named.proofs.numbers.Numbers.note_all.Given as goal

abbrev pub invariant-loop-number : goal.invariant-loop-number
invariant-loop-number l = IsLeft (Contains (take l.number-index l.numbers)) l.fn.self l.self
