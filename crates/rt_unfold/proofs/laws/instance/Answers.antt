use Rattle.rt_unfold.proofs.Instances.{instance_law}
use Rattle.rt_unfold.proofs.laws.instance.Goals as goal

pub returns : goal.returns
returns c = instance_law
