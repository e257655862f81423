use Rattle.rt_marks.proofs.Dropping.{drops_alike_lem}
use Rattle.rt_marks.proofs.laws.dropped.Goals as goal

pub returns : goal.returns
returns c = drops_alike_lem
