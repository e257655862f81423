use Rattle.rt_tree.proofs.Machines.{unfolds}
use Rattle.rt_tree.proofs.laws.unfolds.Goals as goal

pub returns : goal.returns
returns g c = λ step mark state tree good stands w. unfolds step mark state tree good stands w
