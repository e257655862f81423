use Rattle.rt_twins.proofs.OneTwinning.{one_twinning_lem, one_twinned_lem}
use Rattle.rt_twins.proofs.Resting.{twinned_rest_lem}
use Rattle.rt_twins.proofs.laws.one.Goals as goal

pub returns-clause-class : goal.returns-clause-class
returns-clause-class c = one_twinning_lem

pub returns-clause-lines : goal.returns-clause-lines
returns-clause-lines c = one_twinned_lem

pub returns-clause-rest : goal.returns-clause-rest
returns-clause-rest c = twinned_rest_lem
