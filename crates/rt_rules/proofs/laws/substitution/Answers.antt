use Rattle.rt_rules.proofs.Substitution.{substitution_lem}
use Rattle.rt_rules.proofs.laws.substitution.Goals as goal

pub returns : goal.returns
returns c = substitution_lem
