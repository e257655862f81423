use Rattle.rt_proc.proofs.Whole.{steps_lem}
use Rattle.rt_proc.proofs.laws.steps.Goals as goal

pub returns : goal.returns
returns c = steps_lem
