use Rattle.rt_bridge.proofs.Lawful.{fewer_law}
use Rattle.rt_bridge.proofs.laws.fewer.Goals as goal

pub returns : goal.returns
returns c = fewer_law
