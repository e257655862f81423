use Rattle.std.proofs.Common.{◌≡◌, length, subst, sym}
use Rattle.rt_scheme.specs.Reports.{report_text}
use Rattle.rt_reports.specs.GoodReports.{IsReport}
use Rattle.rt_reports.proofs.Reading.{refused_text}
use Rattle.rt_reports.proofs.reader.read_report.Goals as goal

pub returns-in-Ok-clause-read : goal.returns-in-Ok-clause-read
returns-in-Ok-clause-read c =
    subst (λ report. IsReport (length c.args.names.now) report × (report_text c.args.names.now report ≡ c.args.text.now)) (sym c.into_report.ensures) c.in-Ok.ensures.read

pub returns-in-Err-clause-refused : goal.returns-in-Err-clause-refused
returns-in-Err-clause-refused c = refused_text _ _ _ c.in-Err.ensures.place
