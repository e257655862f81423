use Rattle.rt_link.proofs.Naming.{pointer_about}
use Rattle.rt_link.proofs.laws.pointers.Goals as goal

pub returns : goal.returns
returns c = pointer_about
