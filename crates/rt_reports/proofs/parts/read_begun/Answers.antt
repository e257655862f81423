use Rattle.std.proofs.Common.{inr, refl, arith}
use Rattle.rt_scheme.specs.NameTexts.{name_text}
use Rattle.rt_scheme.specs.NameReadings.{AreBytes}
use Rattle.rt_reports.specs.Inside.Rows.{IsBegun, begun_text}
use Rattle.rt_reports.proofs.RowParts.{no_section, no_offset, large_section, no_begun_name}
use Rattle.rt_reports.proofs.parts.read_begun.Goals as goal
use Rattle.rt_texts.proofs.LineTexts.{fault_along}

pub returns-in_default-number_before : goal.returns-in_default-number_before
returns-in_default-number_before c = inr (refl, no_section _ _ _ c.in-Some.ensures c.in_default-number_before.ensures)

pub returns-in_default-number_before-2 : goal.returns-in_default-number_before-2
returns-in_default-number_before-2 c = inr (refl, no_offset _ _ _ _ _ c.in-Some.ensures c.in-Some-number_before.ensures c.in_default-number_before-2.ensures)

pub returns-in_default-try_from : goal.returns-in_default-try_from
returns-in_default-try_from c = inr (refl, large_section _ _ _ _ _ c.in-Some.ensures c.in-Some-number_before.ensures (omega (arith, c.in_default-try_from.ensures)))

pub returns-in-Err : goal.returns-in-Err
returns-in-Err c =
    fault_along AreBytes name_text c.in-Some-number_before-2.escaped.now IsBegun begun_text c.args.text.now c.in-Err.fault
    (no_begun_name _ _ _ c.args.text.now c.in-Some.text.now c.in-Some-number_before.text.now c.in-Some-number_before-2.escaped.now c.in-Some.ensures c.in-Some-number_before.ensures c.in-Some-number_before-2.ensures) c.in-Err.ensures
