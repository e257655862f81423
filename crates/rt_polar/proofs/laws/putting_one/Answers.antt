use Rattle.rt_polar.proofs.Exchanging.{putting_one_lem}
use Rattle.rt_polar.proofs.laws.putting_one.Goals as goal

pub returns : goal.returns
returns c = putting_one_lem
