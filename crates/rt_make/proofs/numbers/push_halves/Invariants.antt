use Rattle.std.proofs.Common.{◌≡◌, ◌++◌, take}
use Rattle.rt_make.specs.Packed.{halves}
use Rattle.rt_make.proofs.numbers.push_halves.Given as goal

abbrev pub invariant-loop-number : goal.invariant-loop-number
invariant-loop-number l = l.out.items ≡ l.initial.out.items ++ halves (take l.number-index l.numbers)
