use Rattle.rt_marks.proofs.Weakening.{trims_alike_lem}
use Rattle.rt_marks.proofs.laws.trimmed.Goals as goal

pub returns : goal.returns
returns c = trims_alike_lem
