use Rattle.rt_marks.proofs.Numbers.{numbering_lem}
use Rattle.rt_marks.proofs.Renaming.{renaming_lem}
use Rattle.rt_marks.proofs.laws.naming.Goals as goal

pub returns-clause-renamed : goal.returns-clause-renamed
returns-clause-renamed c = renaming_lem

pub returns-clause-numbered : goal.returns-clause-numbered
returns-clause-numbered c = numbering_lem
