use Rattle.rt_marks.proofs.Merging.{merges_alike_lem}
use Rattle.rt_marks.proofs.laws.merged.Goals as goal

pub returns : goal.returns
returns c = merges_alike_lem
