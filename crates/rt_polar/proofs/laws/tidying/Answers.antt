use Rattle.rt_polar.proofs.Moved.{staying_lem}
use Rattle.rt_polar.proofs.AlikeTidied.{Alike-tidied}
use Rattle.rt_polar.proofs.laws.tidying.Goals as goal

pub returns-clause-alike : goal.returns-clause-alike
returns-clause-alike c = Alike-tidied

pub returns-clause-stay : goal.returns-clause-stay
returns-clause-stay c = staying_lem
