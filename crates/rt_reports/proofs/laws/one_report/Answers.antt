use Rattle.rt_reports.proofs.OneReport.{one_report_lem}
use Rattle.rt_reports.proofs.laws.one_report.Goals as goal

pub returns : goal.returns
returns c = one_report_lem
