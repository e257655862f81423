use Rattle.rt_marks.proofs.SplittingBack.{splitting_lem}
use Rattle.rt_marks.proofs.SplittingKeeps.{split_for_lem}
use Rattle.rt_marks.proofs.laws.splitting.Goals as goal

pub returns-clause-each : goal.returns-clause-each
returns-clause-each c = splitting_lem

pub returns-clause-other : goal.returns-clause-other
returns-clause-other c = split_for_lem
