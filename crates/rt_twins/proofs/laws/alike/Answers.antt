use Rattle.rt_twins.proofs.Twinning.{twinned_alike_lem}
use Rattle.rt_twins.proofs.laws.alike.Goals as goal

pub returns : goal.returns
returns c = twinned_alike_lem
