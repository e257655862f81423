use Rattle.rt_marks.proofs.Rounds.{form_alike_lem}
use Rattle.rt_marks.proofs.laws.reduced.Goals as goal

pub returns : goal.returns
returns c = form_alike_lem
