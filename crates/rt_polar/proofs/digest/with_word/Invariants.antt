use Rattle.std.proofs.Common.{◌≡◌, take}
use Rattle.rt_polar.specs.Inside.Digests.{with_word}
use Rattle.rt_polar.proofs.digest.with_word.Given as goal

abbrev pub invariant-loop-letter : goal.invariant-loop-letter
invariant-loop-letter l = l.longer ≡ with_word l.digest (take l.letter-index l.letter-items)
