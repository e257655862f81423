use Rattle.rt_refine.proofs.Refining.{refined_alike_lem}
use Rattle.rt_refine.proofs.laws.alike.Goals as goal

pub returns : goal.returns
returns c = refined_alike_lem
