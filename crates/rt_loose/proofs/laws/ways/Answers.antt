use Rattle.rt_loose.proofs.Lawful.{turned_law, named_law, below_law}
use Rattle.rt_loose.proofs.laws.ways.Goals as goal

pub returns-clause-turned : goal.returns-clause-turned
returns-clause-turned c = turned_law

pub returns-clause-named : goal.returns-clause-named
returns-clause-named c = named_law

pub returns-clause-below : goal.returns-clause-below
returns-clause-below c = below_law
