use Rattle.rt_rules.proofs.Joining.{dropping_lem}
use Rattle.rt_rules.proofs.laws.dropping.Goals as goal

pub returns : goal.returns
returns c = dropping_lem
