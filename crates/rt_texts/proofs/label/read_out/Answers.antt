use Rattle.rt_texts.proofs.LabelTexts.{out_unlike}
use Rattle.rt_texts.proofs.label.read_out.Goals as goal

pub returns-in_default : goal.returns-in_default
returns-in_default c = out_unlike c.in-Some.n _ c.in-Some.ensures.0 c.in-Some.ensures.1 c.if-n-le1.false
