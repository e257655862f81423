use Rattle.rt_scheme.specs.NameTexts.{name_text}
use Rattle.rt_scheme.specs.NameReadings.{AreBytes}
use Rattle.rt_reports.specs.GoodReports.{IsGlobal}
use Rattle.rt_reports.specs.Inside.Rows.{listed_text}
use Rattle.rt_reports.proofs.RowParts.{no_listed_name}
use Rattle.rt_reports.proofs.parts.read_listed.Goals as goal
use Rattle.rt_texts.proofs.LineTexts.{fault_along}

pub returns-in-Err : goal.returns-in-Err
returns-in-Err c =
    fault_along AreBytes name_text c.in-Some.escaped.now IsGlobal listed_text c.args.text.now c.in-Err.fault (no_listed_name c.in-Some.number c.args.text.now c.in-Some.escaped.now c.in-Some.ensures) c.in-Err.ensures
