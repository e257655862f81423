use Rattle.rt_loose.proofs.Lawful.{low_law, up_law}
use Rattle.rt_loose.proofs.laws.marks.Goals as goal

pub returns-clause-low : goal.returns-clause-low
returns-clause-low c = low_law

pub returns-clause-up : goal.returns-clause-up
returns-clause-up c = up_law
