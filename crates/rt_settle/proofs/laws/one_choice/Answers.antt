use Rattle.rt_settle.proofs.OneChoice.{one_choice}
use Rattle.rt_settle.proofs.laws.one_choice.Goals as goal

pub returns : goal.returns
returns c = one_choice
