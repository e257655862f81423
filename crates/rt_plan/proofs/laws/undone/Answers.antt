use Rattle.rt_plan.proofs.Events.{undone}
use Rattle.rt_plan.proofs.laws.undone.Goals as goal

pub returns : goal.returns
returns c = undone
