use Rattle.rt_enclosing.proofs.Lawful.{lower_law}
use Rattle.rt_enclosing.proofs.laws.lower.Goals as goal

pub returns : goal.returns
returns c = lower_law
