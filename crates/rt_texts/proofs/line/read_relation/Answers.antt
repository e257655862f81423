use Rattle.rt_texts.proofs.LineTexts.{fault_along, no_low, no_up, no_sub}
use Rattle.rt_texts.proofs.line.read_relation.Goals as goal

pub returns-in-Err : goal.returns-in-Err
returns-in-Err c = fault_along _ _ _ _ _ _ _ (no_low _ _ _ _ c.in-Some.ensures) c.in-Err.ensures

pub returns-in-Err-read_bound : goal.returns-in-Err-read_bound
returns-in-Err-read_bound c =
    fault_along _ _ _ _ _ _ _ (no_up _ _ _ _ c.in_default.ensures c.in-Some-after_front.ensures) c.in-Err-read_bound.ensures

pub returns-in-Err-read_pair : goal.returns-in-Err-read_pair
returns-in-Err-read_pair c =
    fault_along _ _ _ _ _ _ _ (no_sub _ _ _ c.in_default.ensures c.in_default-after_front.ensures) c.in-Err-read_pair.ensures
