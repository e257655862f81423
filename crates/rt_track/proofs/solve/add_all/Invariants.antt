use Rattle.std.proofs.Common.{◌≡◌, ◌++◌, take}
use Rattle.rt_track.proofs.solve.add_all.Given as goal

abbrev pub invariant-loop-number : goal.invariant-loop-number
invariant-loop-number l = l.numbers.items ≡ l.fn.numbers.items ++ take l.number-index l.more
