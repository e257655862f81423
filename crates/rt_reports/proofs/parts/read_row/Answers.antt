use Rattle.std.proofs.Common.{length}
use Rattle.rt_reports.specs.GoodReports.{IsGlobal}
use Rattle.rt_reports.specs.Inside.Rows.{IsRow, IsBegun, listed_text, begun_text, row_text}
use Rattle.rt_reports.proofs.RowParts.{no_listed_row, no_begun_row}
use Rattle.rt_reports.proofs.parts.read_row.Goals as goal
use Rattle.rt_texts.proofs.LineTexts.{fault_along}

pub returns-in-Err : goal.returns-in-Err
returns-in-Err c =
    fault_along IsGlobal listed_text c.in-Some.rest.now (IsRow (length c.args.names.now)) (row_text c.args.names.now) c.args.text.now c.in-Err.fault
    (no_listed_row c.args.names.now c.args.text.now c.in-Some.rest.now c.in-Some.ensures) c.in-Err.ensures

pub returns-in-Err-read_begun : goal.returns-in-Err-read_begun
returns-in-Err-read_begun c =
    fault_along IsBegun begun_text c.in-Some-after_front.rest.now (IsRow (length c.args.names.now)) (row_text c.args.names.now) c.args.text.now c.in-Err-read_begun.fault
    (no_begun_row c.args.names.now c.args.text.now c.in-Some-after_front.rest.now c.in-Some-after_front.ensures) c.in-Err-read_begun.ensures
