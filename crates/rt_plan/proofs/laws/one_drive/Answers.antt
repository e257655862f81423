use Rattle.rt_plan.proofs.Driving.{one_drive}
use Rattle.rt_plan.proofs.laws.one_drive.Goals as goal

pub returns : goal.returns
returns c = one_drive
