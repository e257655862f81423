use Rattle.rt_reduction.proofs.Merging.{merges_alike_lem, one_merge_lem, no_equal_lem, merges_no_self_lem}
use Rattle.rt_reduction.proofs.laws.merging.Goals as goal

pub returns-clause-alike : goal.returns-clause-alike
returns-clause-alike c = merges_alike_lem

pub returns-clause-one : goal.returns-clause-one
returns-clause-one c = one_merge_lem

pub returns-clause-no_equal : goal.returns-clause-no_equal
returns-clause-no_equal c = no_equal_lem

pub returns-clause-no_self : goal.returns-clause-no_self
returns-clause-no_self c = merges_no_self_lem
