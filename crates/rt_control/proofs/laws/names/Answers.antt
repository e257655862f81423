use Rattle.std.proofs.Common.{Ok}
use Rattle.rt_control.proofs.KnownForms.{at-known}
use Rattle.rt_control.proofs.laws.names.Goals as goal

pub returns : goal.returns
returns c = λ object place form linkable at. at-known object place (Ok form) linkable at
