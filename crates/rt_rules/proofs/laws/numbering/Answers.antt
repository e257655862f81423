use Rattle.rt_rules.proofs.Numbers.{numbering_lem}
use Rattle.rt_rules.proofs.laws.numbering.Goals as goal

pub returns : goal.returns
returns c = numbering_lem
