use Rattle.rt_marks.proofs.Exchanging.{putting_lem, putting_one_lem}
use Rattle.rt_marks.proofs.Substitution.{substitution_lem}
use Rattle.rt_marks.proofs.laws.putting.Goals as goal

pub returns-clause-substitution : goal.returns-clause-substitution
returns-clause-substitution c = substitution_lem

pub returns-clause-one : goal.returns-clause-one
returns-clause-one c = putting_one_lem

pub returns-clause-each : goal.returns-clause-each
returns-clause-each c = putting_lem
