use Rattle.rt_proc.proofs.Whole.{callees_lem}
use Rattle.rt_proc.proofs.laws.callees.Goals as goal

pub returns : goal.returns
returns c = callees_lem c.names.ensures
