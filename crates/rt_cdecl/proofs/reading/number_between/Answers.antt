use Rattle.rt_texts.proofs.Cuts.{Reads-after}
use Rattle.rt_cdecl.proofs.reading.number_between.Goals as goal

pub returns-in-Some : goal.returns-in-Some
returns-in-Some c = Reads-after _ _ _ _ _ _ c.in-Some.ensures c.number_before.ensures
