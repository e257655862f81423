use Rattle.rt_reduction.proofs.Rounds.{one_form_lem, form_alike_lem, form_sides_lem, form_reduced_lem}
use Rattle.rt_reduction.proofs.FromConstants.{form_constants_lem}
use Rattle.rt_reduction.proofs.laws.one_form.Goals as goal

pub returns-clause-one : goal.returns-clause-one
returns-clause-one c = one_form_lem

pub returns-clause-alike : goal.returns-clause-alike
returns-clause-alike c = form_alike_lem

pub returns-clause-sides : goal.returns-clause-sides
returns-clause-sides c = form_sides_lem

pub returns-clause-reduced : goal.returns-clause-reduced
returns-clause-reduced c = form_reduced_lem

pub returns-clause-constants : goal.returns-clause-constants
returns-clause-constants c = form_constants_lem
