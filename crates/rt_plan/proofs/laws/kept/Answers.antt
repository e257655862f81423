use Rattle.rt_plan.proofs.Events.{kept}
use Rattle.rt_plan.proofs.laws.kept.Goals as goal

pub returns : goal.returns
returns c = kept
