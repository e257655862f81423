use Rattle.rt_unfold.proofs.Labels.{unfolded_labels_law}
use Rattle.rt_unfold.proofs.There.{one_law, there_law}
use Rattle.rt_unfold.proofs.Unfolding.{unfolding_law}
use Rattle.rt_unfold.proofs.laws.unfolding.Goals as goal

pub returns-clause-there : goal.returns-clause-there
returns-clause-there c = there_law

pub returns-clause-one : goal.returns-clause-one
returns-clause-one c = one_law

pub returns-clause-alike : goal.returns-clause-alike
returns-clause-alike c = unfolding_law

pub returns-clause-labels : goal.returns-clause-labels
returns-clause-labels c = unfolded_labels_law
