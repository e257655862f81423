use Rattle.rt_bridge.proofs.Lawful.{exact_law}
use Rattle.rt_bridge.proofs.laws.exact.Goals as goal

pub returns : goal.returns
returns c = exact_law
