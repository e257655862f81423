use Rattle.rt_reduction.proofs.Emitting.{emits_alike_lem, emits_of_scheme_lem, one_emit_lem, emits_used_lem, emits_joined_lem, emits_no_self_lem}
use Rattle.rt_reduction.proofs.laws.emitting.Goals as goal

pub returns-clause-alike : goal.returns-clause-alike
returns-clause-alike c = emits_alike_lem

pub returns-clause-of_scheme : goal.returns-clause-of_scheme
returns-clause-of_scheme c = emits_of_scheme_lem

pub returns-clause-one : goal.returns-clause-one
returns-clause-one c = one_emit_lem

pub returns-clause-used : goal.returns-clause-used
returns-clause-used c = emits_used_lem

pub returns-clause-joined : goal.returns-clause-joined
returns-clause-joined c = emits_joined_lem

pub returns-clause-no_self : goal.returns-clause-no_self
returns-clause-no_self c = emits_no_self_lem
