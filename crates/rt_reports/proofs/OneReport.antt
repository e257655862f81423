-- A text is that of one report alone.
use Rattle.std.proofs.Common.{◌≡◌, ℕ, [], fold, length, ap, sym, ◌∙◌, append-nil}
use Rattle.rt_texts.specs.Readings.{HasNo}
use Rattle.rt_scheme.specs.declared.report.Report.{Report}
use Rattle.rt_reports.specs.GoodReports.{IsReport}
use Rattle.rt_reports.specs.ReportReadings.{OneReport}
use Rattle.rt_reports.specs.Inside.Drafts.{no_parts, with_row, report_of}
use Rattle.rt_reports.specs.Inside.Reads.{report_rows, rows_text}
use Rattle.rt_reports.proofs.Rows.{report_rows-text, report_rows-good, same_rows}
use Rattle.rt_reports.proofs.Runs.{Accepts-last, accept_report, ended}

-- the end of an empty text has no line end
no_end : HasNo 10 []
no_end = tt

-- reading its lines again gives the report
again : (count : ℕ) (report : Report) → IsReport count report → fold with_row no_parts (report_rows report) ≡ ended report
again count report good = Accepts-last no_parts (report_rows report) (ended report) (accept_report count report good)

pub one_report_lem : OneReport
one_report_lem names first second fine g h same =
    let texts = append-nil (rows_text names (report_rows first)) ∙ (report_rows-text names first ∙ (same ∙ sym (report_rows-text names second))) in
    let rows = (same_rows names (report_rows first) (report_rows second) [] fine (report_rows-good (length names) first g) (report_rows-good (length names) second h) no_end texts).1 in
    let ends : ended first ≡ ended second = sym (again (length names) first g) ∙ (ap (fold with_row no_parts) (sym rows) ∙ again (length names) second h) in
    λ i. report_of (ends i)
