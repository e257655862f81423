use Rattle.rt_twins.proofs.OneTwinning.{twinned_names_lem, twinned_loses_lem}
use Rattle.rt_twins.proofs.laws.keeping.Goals as goal

pub returns-clause-names : goal.returns-clause-names
returns-clause-names c = twinned_names_lem

pub returns-clause-loses : goal.returns-clause-loses
returns-clause-loses c = twinned_loses_lem
