use Rattle.rt_texts.proofs.Cuts.{Reads-after}
use Rattle.rt_texts.proofs.cut.read_signed_after.Goals as goal

pub returns-in-Some : goal.returns-in-Some
returns-in-Some c = Reads-after _ _ _ _ _ _ c.in-Some.ensures c.read_signed.ensures
