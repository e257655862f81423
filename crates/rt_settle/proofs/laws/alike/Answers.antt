use Rattle.rt_settle.proofs.ChosenLaws.{chosen_alike}
use Rattle.rt_settle.proofs.laws.alike.Goals as goal

pub returns : goal.returns
returns c = chosen_alike
