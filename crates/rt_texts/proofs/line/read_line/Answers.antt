use Rattle.std.proofs.Common.{inr, refl}
use Rattle.rt_texts.proofs.LineTexts.{fault_along, no_same, no_sign, no_relation}
use Rattle.rt_texts.proofs.line.read_line.Goals as goal

pub returns-in-Err-read_spaced : goal.returns-in-Err-read_spaced
returns-in-Err-read_spaced c =
    fault_along _ _ _ _ _ _ _ (no_same _ _ _ c.in-Some-after_front.ensures) c.in-Err-read_spaced.ensures

pub returns-in_default-after_front-2 : goal.returns-in_default-after_front-2
returns-in_default-after_front-2 c =
    inr (refl, no_sign _ _ _ _ c.items-names.ensures.good c.split_before.ensures c.in_default.ensures c.in_default-after_front.ensures c.in_default-after_front-2.ensures)

pub returns-in-Err-read_relation : goal.returns-in-Err-read_relation
returns-in-Err-read_relation c =
    fault_along _ _ _ _ _ _ _
    (no_relation _ _ _ _ _ c.items-names.ensures.good c.split_before.ensures c.in_default.ensures c.in_default-after_front.ensures c.in-Some-after_front-2.ensures)
    c.in-Err-read_relation.ensures
