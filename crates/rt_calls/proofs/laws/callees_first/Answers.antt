use Rattle.rt_calls.proofs.Calling.{callees_first}
use Rattle.rt_calls.proofs.laws.callees_first.Goals as goal

pub returns : goal.returns
returns c = λ procs groups callees are of g k d. callees_first procs groups callees are of g k d
