use Rattle.rt_enclosing.proofs.Lawful.{hubs_law}
use Rattle.rt_enclosing.proofs.laws.hubs.Goals as goal

pub returns : goal.returns
returns c = hubs_law
