use Rattle.rt_sat.proofs.Deciding.{deciding_law}
use Rattle.rt_sat.proofs.laws.deciding.Goals as goal

pub returns : goal.returns
returns c = deciding_law
