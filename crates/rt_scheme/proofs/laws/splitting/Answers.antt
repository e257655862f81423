use Rattle.rt_scheme.proofs.SplittingBack.{splitting_lem}
use Rattle.rt_scheme.proofs.laws.splitting.Goals as goal

pub returns : goal.returns
returns c = splitting_lem
