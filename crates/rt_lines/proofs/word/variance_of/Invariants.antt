use Rattle.std.proofs.Common.{◌≡◌, take}
use Rattle.rt_lines.specs.Words.{variance_of_word}
use Rattle.rt_lines.proofs.word.variance_of.Given as goal

abbrev pub invariant-loop-label : goal.invariant-loop-label
invariant-loop-label l = l.variance ≡ variance_of_word (take l.label-index l.label-items)
