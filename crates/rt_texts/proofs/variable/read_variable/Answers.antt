use Rattle.std.proofs.Common.{inr, refl}
use Rattle.rt_texts.proofs.VariableTexts.{no_base, fault_of_word}
use Rattle.rt_texts.proofs.variable.read_variable.Goals as goal

pub returns-in_default : goal.returns-in_default
returns-in_default c = inr (refl, no_base _ _ _ c.split_before.ensures c.in_default.ensures)

pub returns-in-Err : goal.returns-in-Err
returns-in-Err c = fault_of_word _ _ _ _ c.split_before.ensures c.in-Err.ensures
