use Rattle.rt_rules.proofs.Renaming.{renaming_lem}
use Rattle.rt_rules.proofs.laws.renaming.Goals as goal

pub returns : goal.returns
returns c = renaming_lem
