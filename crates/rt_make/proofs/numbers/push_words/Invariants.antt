use Rattle.std.proofs.Common.{◌≡◌, ◌++◌, take}
use Rattle.rt_make.specs.Packed.{words}
use Rattle.rt_make.proofs.numbers.push_words.Given as goal

abbrev pub invariant-loop-number : goal.invariant-loop-number
invariant-loop-number l = l.out.items ≡ l.initial.out.items ++ words (take l.number-index l.numbers)
