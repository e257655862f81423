use Rattle.rt_insn.proofs.Words.{code-word}
use Rattle.rt_insn.proofs.laws.one_word.Goals as goal

pub returns : goal.returns
returns c = code-word
