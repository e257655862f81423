use Rattle.rt_shape.proofs.ReadWrite.{step_lem}
use Rattle.rt_shape.proofs.laws.step.Goals as goal

pub returns : goal.returns
returns c = step_lem
