use Rattle.rt_scheme.proofs.Origins.{few_new}
use Rattle.rt_scheme.proofs.laws.few_are_new.Goals as goal

pub returns : goal.returns
returns c = few_new
