use Rattle.rt_agreement.proofs.Real.{one_real}
use Rattle.rt_agreement.proofs.laws.one_real.Goals as goal

pub returns : goal.returns
returns c = one_real
