use Rattle.rt_sigs.proofs.OneFault.{one_fault_lem}
use Rattle.rt_sigs.proofs.laws.one_fault.Goals as goal

pub returns : goal.returns
returns c = one_fault_lem
