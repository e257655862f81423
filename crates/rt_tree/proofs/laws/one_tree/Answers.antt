use Rattle.rt_tree.proofs.One.{one}
use Rattle.rt_tree.proofs.laws.one_tree.Goals as goal

pub returns : goal.returns
returns c = one
