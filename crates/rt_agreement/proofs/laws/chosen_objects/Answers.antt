use Rattle.rt_agreement.proofs.Chosen.{chosen_objects}
use Rattle.rt_agreement.proofs.laws.chosen_objects.Goals as goal

pub returns : goal.returns
returns c = chosen_objects
