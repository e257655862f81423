use Rattle.rt_plan.proofs.Driving.{driven}
use Rattle.rt_plan.proofs.laws.driven.Goals as goal

pub returns : goal.returns
returns c = driven
