use Rattle.rt_settle.proofs.ChosenLaws.{chosen_scheme}
use Rattle.rt_settle.proofs.laws.scheme.Goals as goal

pub returns : goal.returns
returns c = chosen_scheme
