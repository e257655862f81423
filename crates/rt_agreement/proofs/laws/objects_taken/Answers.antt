use Rattle.rt_agreement.proofs.Objects.{objects_taken}
use Rattle.rt_agreement.proofs.laws.objects_taken.Goals as goal

pub returns : goal.returns
returns c = objects_taken
