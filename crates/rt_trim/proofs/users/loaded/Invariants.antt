use Rattle.std.proofs.Common.{◌≡◌, map, take}
use Rattle.rt_trim.specs.Idle.{as_load}
use Rattle.rt_trim.proofs.users.loaded.Given as goal

abbrev pub invariant-loop-letter : goal.invariant-loop-letter
invariant-loop-letter l = record {
  letters : l.letter-items ≡ l.x.word;
  word : l.word ≡ map as_load (take l.letter-index l.x.word);
}
