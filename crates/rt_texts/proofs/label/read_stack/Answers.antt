use Rattle.std.proofs.Common.{arith}
use Rattle.rt_texts.proofs.LabelTexts.{stack_unlike}
use Rattle.rt_texts.proofs.label.read_stack.Goals as goal

pub returns-in_default : goal.returns-in_default
returns-in_default c = stack_unlike c.in-Some.k _ c.in-Some.ensures.0 c.in-Some.ensures.1 (λ good. let h = c.if-k-le65532.false in absurd (omega arith))

pub returns-in_default-2 : goal.returns-in_default-2
returns-in_default-2 c = stack_unlike c.in-Some.k _ c.in-Some.ensures.0 c.in-Some.ensures.1 (λ good. c.if-k-eq0.false good.0)
