use Rattle.rt_sat.proofs.Numbered.{numbered_law}
use Rattle.rt_sat.proofs.laws.numbered.Goals as goal

pub returns : goal.returns
returns c = numbered_law
