use Rattle.rt_marks.proofs.Records.{splits_alike_lem}
use Rattle.rt_marks.proofs.laws.split.Goals as goal

pub returns : goal.returns
returns c = splits_alike_lem
