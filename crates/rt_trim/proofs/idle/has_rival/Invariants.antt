use Rattle.std.proofs.Common.{◌≡◌, ℕ, ◌<◌}
use Rattle.rt_trim.specs.Trimming.{front_of, HasUser}
use Rattle.rt_trim.proofs.idle.has_rival.Given as goal

abbrev pub invariant-loop-letter : goal.invariant-loop-letter
invariant-loop-letter l = record {
  letters : l.letter-items ≡ l.x.word;
  front : l.front ≡ front_of l.x l.letter-index;
  none : (n : ℕ) → n < l.letter-index → HasUser l.users.entries (front_of l.x n) → ⊥;
}
