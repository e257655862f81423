use Rattle.std.proofs.Common.{Ok}
use Rattle.rt_control.proofs.GoodForms.{at-good}
use Rattle.rt_control.proofs.laws.places.Goals as goal

pub returns : goal.returns
returns c = λ object place form at. at-good object place (Ok form) at
