use Rattle.rt_sat.proofs.Closings.{closing_law}
use Rattle.rt_sat.proofs.laws.closing.Goals as goal

pub returns : goal.returns
returns c = closing_law
