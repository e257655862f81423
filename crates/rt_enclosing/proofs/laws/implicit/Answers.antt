use Rattle.rt_enclosing.proofs.Lawful.{implicit_law}
use Rattle.rt_enclosing.proofs.laws.implicit.Goals as goal

pub returns : goal.returns
returns c = implicit_law
