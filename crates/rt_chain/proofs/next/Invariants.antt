use Rattle.std.proofs.Common.{◌≡◌, ◌<◌, ℕ, true, false, drop, get_or}
use Rattle.rt_lines.specs.declared.label.Variance.TheVariants.{Co}
use Rattle.rt_lines.specs.Words.{variance_of_word}
use Rattle.rt_chain.proofs.next.Given as goal

abbrev pub invariant-loop-i : goal.invariant-loop-i
invariant-loop-i l = record {
  letters : l.letters ≡ l.word;
  sign : l.sign ≡ variance_of_word (drop l.i l.word);
  ones : (k : ℕ) → k < l.i → get_or l.flips k false ≡ true → variance_of_word (drop k l.word) ≡ Co;
}
