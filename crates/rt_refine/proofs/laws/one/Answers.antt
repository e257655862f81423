use Rattle.rt_refine.proofs.OneCoarsest.{one_coarsest_lem, one_refined_lem}
use Rattle.rt_refine.proofs.Resting.{refined_rest_lem}
use Rattle.rt_refine.proofs.laws.one.Goals as goal

pub returns-clause-class : goal.returns-clause-class
returns-clause-class c = one_coarsest_lem

pub returns-clause-lines : goal.returns-clause-lines
returns-clause-lines c = one_refined_lem

pub returns-clause-rest : goal.returns-clause-rest
returns-clause-rest c = refined_rest_lem
