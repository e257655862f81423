use Rattle.rt_sat.proofs.Weighing.{count_law}
use Rattle.rt_sat.proofs.laws.counting.Goals as goal

pub returns : goal.returns
returns c = count_law
