use Rattle.rt_run.proofs.Ordered.{one_lattice}
use Rattle.rt_run.proofs.laws.one_lattice.Goals as goal

pub returns : goal.returns
returns c = one_lattice
