use Rattle.rt_loose.proofs.Lawful.{flexible_law}
use Rattle.rt_loose.proofs.laws.flexible.Goals as goal

pub returns : goal.returns
returns c = flexible_law
