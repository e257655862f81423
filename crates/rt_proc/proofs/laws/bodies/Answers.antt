use Rattle.rt_proc.proofs.EntrySets.{bodies_lem}
use Rattle.rt_proc.proofs.laws.bodies.Goals as goal

pub returns : goal.returns
returns c = bodies_lem
