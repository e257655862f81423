use Rattle.rt_marks.proofs.Simplifying.{simplifies_alike_lem}
use Rattle.rt_marks.proofs.laws.simplified.Goals as goal

pub returns : goal.returns
returns c = simplifies_alike_lem
