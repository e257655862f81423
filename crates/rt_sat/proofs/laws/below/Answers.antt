use Rattle.rt_sat.proofs.Below.{below_law}
use Rattle.rt_sat.proofs.laws.below.Goals as goal

pub returns : goal.returns
returns c = below_law
