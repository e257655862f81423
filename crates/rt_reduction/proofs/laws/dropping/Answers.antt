use Rattle.rt_reduction.proofs.Dropping.{one_drop_lem, kept_lem, kept_derive_lem, drops_alike_lem, none_to_spare_lem}
use Rattle.rt_reduction.proofs.laws.dropping.Goals as goal

pub returns-clause-one : goal.returns-clause-one
returns-clause-one c = one_drop_lem

pub returns-clause-stood : goal.returns-clause-stood
returns-clause-stood c = kept_lem

pub returns-clause-derive : goal.returns-clause-derive
returns-clause-derive c = kept_derive_lem

pub returns-clause-alike : goal.returns-clause-alike
returns-clause-alike c = drops_alike_lem

pub returns-clause-needed : goal.returns-clause-needed
returns-clause-needed c = none_to_spare_lem
