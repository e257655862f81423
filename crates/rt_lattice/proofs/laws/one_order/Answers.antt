use Rattle.rt_lattice.proofs.Ordered.{one_of_text, one_standard}
use Rattle.rt_lattice.proofs.laws.one_order.Goals as goal

pub returns-clause-text : goal.returns-clause-text
returns-clause-text c = one_of_text

pub returns-clause-standard : goal.returns-clause-standard
returns-clause-standard c = one_standard
