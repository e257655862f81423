use Rattle.rt_enclosing.proofs.Lawful.{turning_law}
use Rattle.rt_enclosing.proofs.laws.turning.Goals as goal

pub returns : goal.returns
returns c = turning_law
