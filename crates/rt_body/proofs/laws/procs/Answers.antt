use Rattle.rt_body.proofs.Ranging.{procs_lem}
use Rattle.rt_body.proofs.laws.procs.Goals as goal

pub returns : goal.returns
returns c = procs_lem c.steps.ensures c.callees.ensures
