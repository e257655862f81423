use Rattle.rt_loose.proofs.Lawful.{start_law}
use Rattle.rt_loose.proofs.laws.start.Goals as goal

pub returns : goal.returns
returns c = start_law
