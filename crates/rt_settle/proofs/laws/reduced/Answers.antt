use Rattle.rt_settle.proofs.ChosenLaws.{chosen_reduced}
use Rattle.rt_settle.proofs.laws.reduced.Goals as goal

pub returns : goal.returns
returns c = chosen_reduced
