use Rattle.rt_loose.proofs.Lawful.{pointer_law}
use Rattle.rt_loose.proofs.laws.pointer.Goals as goal

pub returns : goal.returns
returns c = pointer_law
