use Rattle.rt_insn.proofs.Ranges.{code-range}
use Rattle.rt_insn.proofs.laws.code_in_range.Goals as goal

pub returns : goal.returns
returns c = code-range
