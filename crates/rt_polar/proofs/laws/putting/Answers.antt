use Rattle.rt_polar.proofs.Exchanging.{putting_lem}
use Rattle.rt_polar.proofs.laws.putting.Goals as goal

pub returns : goal.returns
returns c = putting_lem
