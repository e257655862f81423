use Rattle.std.proofs.Common.{inr, refl}
use Rattle.rt_texts.proofs.VariableTexts.{IsPartRead-goes_on, no_label, no_rest}
use Rattle.rt_texts.proofs.variable.read_word.Goals as goal

pub returns-in_default-read_label : goal.returns-in_default-read_label
returns-in_default-read_label c =
    let read = rw c.in-Some.ensures at c.loop-after.invariant in
    inr (refl, no_label _ _ _ _ _ read c.split_before.ensures c.in_default-read_label.ensures)

pub loop-after-preserved : goal.loop-after-preserved
loop-after-preserved c =
    let read = rw c.in-Some.ensures at c.loop-after.invariant in
    rw c.in-Ok.ensures.ok
    (IsPartRead-goes_on _ _ _ _ _ _ read c.split_before.ensures c.in-Some-read_label.ensures.0 c.in-Some-read_label.ensures.1)

pub returns-else-is_empty : goal.returns-else-is_empty
returns-else-is_empty c = inr (refl, no_rest _ _ _ c.loop-after.invariant c.if-is_empty.ensures c.in_default.ensures)
