use Rattle.rt_sketch.proofs.Ends.{one_sketch}
use Rattle.rt_sketch.proofs.laws.one_sketch.Goals as goal

pub returns : goal.returns
returns c = one_sketch c.one_tree.ensures
