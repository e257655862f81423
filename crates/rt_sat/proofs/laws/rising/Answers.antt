use Rattle.rt_sat.proofs.Weighing.{rising_law}
use Rattle.rt_sat.proofs.laws.rising.Goals as goal

pub returns : goal.returns
returns c = rising_law
