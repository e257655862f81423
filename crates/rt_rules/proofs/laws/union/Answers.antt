use Rattle.rt_rules.proofs.Joining.{union_lem}
use Rattle.rt_rules.proofs.laws.union.Goals as goal

pub returns : goal.returns
returns c = union_lem
