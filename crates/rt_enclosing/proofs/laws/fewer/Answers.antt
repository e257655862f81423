use Rattle.rt_enclosing.proofs.Lawful.{fewer_law}
use Rattle.rt_enclosing.proofs.laws.fewer.Goals as goal

pub returns : goal.returns
returns c = fewer_law
