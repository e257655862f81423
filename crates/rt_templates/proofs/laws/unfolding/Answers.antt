use Rattle.rt_templates.proofs.AllBelow.{solved_law}
use Rattle.rt_templates.proofs.OneUnfolding.{one_unfolding}
use Rattle.rt_templates.proofs.laws.unfolding.Goals as goal

pub returns-clause-below : goal.returns-clause-below
returns-clause-below c = solved_law c.templates.ensures c.unfolding.ensures.there c.unfolding.ensures.alike c.unfolding.ensures.labels

pub returns-clause-one : goal.returns-clause-one
returns-clause-one c = one_unfolding c.unfolding.ensures.one
