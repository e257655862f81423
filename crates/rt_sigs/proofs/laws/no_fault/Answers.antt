use Rattle.rt_sigs.proofs.NoFault.{no_fault_lem}
use Rattle.rt_sigs.proofs.laws.no_fault.Goals as goal

pub returns : goal.returns
returns c = no_fault_lem
