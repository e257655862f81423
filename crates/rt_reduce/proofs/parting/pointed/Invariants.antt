use Rattle.std.proofs.Common.{◌≡◌, map, take}
use Rattle.rt_reduce.specs.Inside.Parting.{pointed_letter}
use Rattle.rt_reduce.proofs.parting.pointed.Given as goal

abbrev pub invariant-loop-letter : goal.invariant-loop-letter
invariant-loop-letter l = record { word : l.word ≡ map pointed_letter (take l.letter-index l.letter-items); same : l.letter-items ≡ l.x.word }
