use Rattle.rt_rules.proofs.Putting.{putting_lem}
use Rattle.rt_rules.proofs.laws.putting.Goals as goal

pub returns : goal.returns
returns c = putting_lem
