use Rattle.rt_twins.proofs.Comparing.{lines_same}
use Rattle.rt_twins.proofs.twins.are_same.Goals as goal

pub returns : goal.returns
returns c = lines_same c.eq.result c.args.left.now c.args.right.now c.eq.ensures
