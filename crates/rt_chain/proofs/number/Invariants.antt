use Rattle.std.proofs.Common.{◌≡◌, ◌≤◌, length, drop}
use Rattle.rt_lines.specs.Words.{variance_of_word}
use Rattle.rt_chain.specs.Numbers.{number_of}
use Rattle.rt_chain.proofs.number.Given as goal

abbrev pub invariant-loop-i : goal.invariant-loop-i
invariant-loop-i l = record {
  letters : l.letters ≡ l.word;
  within : l.i ≤ length l.word;
  sign : l.sign ≡ variance_of_word (drop l.i l.word);
  number : l.number ≡ number_of (drop l.i l.word) (drop l.i l.flips);
}

abbrev pub decreases-loop-i : goal.decreases-loop-i
decreases-loop-i l = l.i
