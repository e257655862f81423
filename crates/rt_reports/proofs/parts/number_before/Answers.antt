use Rattle.std.proofs.Common.{sym}
use Rattle.rt_reports.proofs.RowParts.{numbered_cut}
use Rattle.rt_reports.proofs.parts.number_before.Goals as goal

pub returns-in_default : goal.returns-in_default
returns-in_default c = λ n rest small same. c.in_default.ensures n small (numbered_cut n _ rest _ _ _ c.requires c.split_before.ensures small same).0

pub returns-in-None : goal.returns-in-None
returns-in-None c = λ n rest small same. c.in-None.ensures rest (sym (numbered_cut n _ rest _ _ _ c.requires c.split_before.ensures small same).1)
