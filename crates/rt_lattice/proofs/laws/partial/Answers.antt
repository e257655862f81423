use Rattle.rt_lattice.proofs.Ordered.{partial_of_text, partial_standard}
use Rattle.rt_lattice.proofs.laws.partial.Goals as goal

pub returns-clause-text : goal.returns-clause-text
returns-clause-text c = partial_of_text

pub returns-clause-standard : goal.returns-clause-standard
returns-clause-standard c = partial_standard
