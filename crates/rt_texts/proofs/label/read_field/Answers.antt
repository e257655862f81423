use Rattle.std.proofs.Common.{inl, inr, refl}
use Rattle.rt_texts.proofs.LabelTexts.{field_front-8, field_front-16, field_front-32, field_like, field_unlike}
use Rattle.rt_texts.proofs.label.read_field.Goals as goal

pub returns-in-Some : goal.returns-in-Some
returns-in-Some c = field_like 8 _ _ _ (inl refl) field_front-8 c.in-Some.ensures.0 c.in-Some.ensures.1

pub returns-in-Some-read_signed_after : goal.returns-in-Some-read_signed_after
returns-in-Some-read_signed_after c =
    let read = c.in-Some-read_signed_after.ensures in field_like 16 _ _ _ (inr (inl refl)) field_front-16 read.0 read.1

pub returns-in-Some-read_signed_after-2 : goal.returns-in-Some-read_signed_after-2
returns-in-Some-read_signed_after-2 c =
    let read = c.in-Some-read_signed_after-2.ensures in field_like 32 _ _ _ (inr (inr refl)) field_front-32 read.0 read.1

pub returns : goal.returns
returns c =
    field_unlike _ c.in_default.ensures c.in_default-read_signed_after.ensures c.in_default-read_signed_after-2.ensures
