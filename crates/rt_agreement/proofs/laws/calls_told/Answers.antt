use Rattle.rt_agreement.proofs.Told.{calls_told}
use Rattle.rt_agreement.proofs.laws.calls_told.Goals as goal

pub returns : goal.returns
returns c = calls_told
