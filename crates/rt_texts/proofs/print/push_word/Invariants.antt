use Rattle.std.proofs.Common.{◌≡◌, ◌++◌, take}
use Rattle.rt_texts.specs.Texts.{word_text}
use Rattle.rt_texts.proofs.print.push_word.Given as goal

abbrev pub invariant-loop-label : goal.invariant-loop-label
invariant-loop-label l = l.out.items ≡ l.fn.out.items ++ word_text (take l.label-index l.label-items)
