use Rattle.std.proofs.Common.{inr, refl}
use Rattle.rt_texts.proofs.LineTexts.{fault_along, no_space, no_spaced}
use Rattle.rt_texts.proofs.line.read_spaced.Goals as goal

pub returns-in_default : goal.returns-in_default
returns-in_default c = inr (refl, no_space _ _ _ c.split_before.ensures c.in_default.ensures)

pub returns-in-Err : goal.returns-in-Err
returns-in-Err c = fault_along _ _ _ _ _ _ _ (no_spaced _ _ _ _ c.split_before.ensures c.in-Some.ensures) c.in-Err.ensures
