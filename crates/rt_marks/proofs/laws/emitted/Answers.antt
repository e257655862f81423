use Rattle.rt_marks.proofs.Emitting.{emits_alike_lem}
use Rattle.rt_marks.proofs.laws.emitted.Goals as goal

pub returns : goal.returns
returns c = emits_alike_lem
