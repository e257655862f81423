use Rattle.rt_loose.proofs.Lawful.{step_law}
use Rattle.rt_loose.proofs.laws.step.Goals as goal

pub returns : goal.returns
returns c = step_law
