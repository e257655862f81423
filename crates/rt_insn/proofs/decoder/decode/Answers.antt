use Rattle.std.proofs.Common.{◌∙◌}
use Rattle.rt_insn.proofs.Reading.{insn_of-code}
use Rattle.rt_insn.proofs.Decoding.{none-no_code, found-in_range}
use Rattle.rt_insn.proofs.decoder.decode.Goals as goal

pub returns-clause-only : goal.returns-clause-only
returns-clause-only c = λ i h. c.by_opcode.ensures.exact ∙ insn_of-code c.args.word i h

pub returns-clause-none : goal.returns-clause-none
returns-clause-none c =
    none-no_code c.args.word _ c.by_opcode.ensures.found
    (λ i h. c.by_opcode.ensures.exact ∙ insn_of-code c.args.word i h)

pub returns-clause-in_range : goal.returns-clause-in_range
returns-clause-in_range c = found-in_range c.args.word _ c.by_opcode.ensures.found
