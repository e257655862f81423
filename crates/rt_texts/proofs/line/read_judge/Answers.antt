use Rattle.rt_texts.proofs.LineTexts.{fault_along, no_line}
use Rattle.rt_texts.proofs.line.read_judge.Goals as goal

pub returns : goal.returns
returns c = fault_along _ _ _ _ _ _ _ (no_line _ _) c.in-Err.ensures
