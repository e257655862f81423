use Rattle.std.proofs.Common.{inr, refl}
use Rattle.rt_entail.proofs.Judging.{no_judge}
use Rattle.rt_entail.proofs.entail.read_judgement.Goals as goal

pub returns-in-Err-BadText : goal.returns-in-Err-BadText
returns-in-Err-BadText c = inr (refl, no_judge _ _ _ _ c.in-Err-BadText.field-0-is c.in-Err-BadText.ensures)
