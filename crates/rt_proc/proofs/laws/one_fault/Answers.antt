use Rattle.rt_proc.proofs.OneFault.{one_fault}
use Rattle.rt_proc.proofs.laws.one_fault.Goals as goal

pub returns : goal.returns
returns c = one_fault c.one_form.ensures
