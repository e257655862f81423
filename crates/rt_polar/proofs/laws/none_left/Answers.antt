use Rattle.rt_polar.proofs.OneAnswer.{none_left_lem}
use Rattle.rt_polar.proofs.laws.none_left.Goals as goal

pub returns : goal.returns
returns c = none_left_lem
