use Rattle.rt_settle.proofs.Constants.{constants_stand}
use Rattle.rt_settle.proofs.laws.constants.Goals as goal

pub returns : goal.returns
returns c = constants_stand
