use Rattle.rt_loose.proofs.Lawful.{looseness_law}
use Rattle.rt_loose.proofs.laws.looseness.Goals as goal

pub returns : goal.returns
returns c = looseness_law
