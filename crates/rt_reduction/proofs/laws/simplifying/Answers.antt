use Rattle.rt_reduction.proofs.Simplifying.{one_simple_lem, simplifies_alike_lem}
use Rattle.rt_reduction.proofs.Losing.{simplifies_rest_lem}
use Rattle.rt_reduction.proofs.laws.simplifying.Goals as goal

pub returns-clause-alike : goal.returns-clause-alike
returns-clause-alike c = simplifies_alike_lem

pub returns-clause-one : goal.returns-clause-one
returns-clause-one c = one_simple_lem

pub returns-clause-rest : goal.returns-clause-rest
returns-clause-rest c = simplifies_rest_lem
