use Rattle.rt_trim.proofs.Weakening.{trims_alike_lem, one_trim_lem, trims_names_lem}
use Rattle.rt_trim.proofs.laws.trimming.Goals as goal

pub returns-clause-alike : goal.returns-clause-alike
returns-clause-alike c = trims_alike_lem

pub returns-clause-one : goal.returns-clause-one
returns-clause-one c = one_trim_lem

pub returns-clause-names : goal.returns-clause-names
returns-clause-names c = trims_names_lem
