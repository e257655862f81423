use Rattle.rt_calls.proofs.Calling.{one_callees}
use Rattle.rt_calls.proofs.laws.one_callees.Goals as goal

pub returns : goal.returns
returns c = λ procs groups first second one two. one_callees procs groups first second one two
