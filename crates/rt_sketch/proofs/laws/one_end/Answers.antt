use Rattle.rt_sketch.proofs.Ends.{one_end}
use Rattle.rt_sketch.proofs.laws.one_end.Goals as goal

pub returns : goal.returns
returns c = one_end
