use Rattle.rt_enclosing.proofs.Lawful.{upper_law}
use Rattle.rt_enclosing.proofs.laws.upper.Goals as goal

pub returns : goal.returns
returns c = upper_law
