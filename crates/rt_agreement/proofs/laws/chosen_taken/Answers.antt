use Rattle.rt_agreement.proofs.Chosen.{chosen_taken}
use Rattle.rt_agreement.proofs.laws.chosen_taken.Goals as goal

pub returns : goal.returns
returns c = chosen_taken
