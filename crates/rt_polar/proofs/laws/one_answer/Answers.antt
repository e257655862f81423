use Rattle.rt_polar.proofs.OneAnswer.{one_answer_lem}
use Rattle.rt_polar.proofs.laws.one_answer.Goals as goal

pub returns : goal.returns
returns c = one_answer_lem
