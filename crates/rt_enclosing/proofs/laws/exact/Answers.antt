use Rattle.rt_enclosing.proofs.Lawful.{exact_law}
use Rattle.rt_enclosing.proofs.laws.exact.Goals as goal

pub returns : goal.returns
returns c = exact_law
