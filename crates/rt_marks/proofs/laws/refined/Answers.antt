use Rattle.rt_marks.proofs.Refining.{refined_alike_lem}
use Rattle.rt_marks.proofs.laws.refined.Goals as goal

pub returns : goal.returns
returns c = refined_alike_lem
