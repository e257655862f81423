use Rattle.rt_reduction.proofs.Losing.{round_names_lem, round_loses_lem}
use Rattle.rt_reduction.proofs.laws.ending.Goals as goal

pub returns-clause-names : goal.returns-clause-names
returns-clause-names c = round_names_lem

pub returns-clause-loses : goal.returns-clause-loses
returns-clause-loses c = round_loses_lem
