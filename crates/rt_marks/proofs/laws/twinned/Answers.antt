use Rattle.rt_marks.proofs.Twinning.{twinned_alike_lem}
use Rattle.rt_marks.proofs.laws.twinned.Goals as goal

pub returns : goal.returns
returns c = twinned_alike_lem
