use Rattle.std.proofs.Common.{length}
use Rattle.rt_texts.proofs.VariableTexts.{IsPartRead}
use Rattle.rt_texts.proofs.variable.read_word.Given as goal

abbrev pub invariant-loop-after : goal.invariant-loop-after
invariant-loop-after l = IsPartRead l.text l.word l.rest

abbrev pub decreases-loop-after : goal.decreases-loop-after
decreases-loop-after l = length l.rest
