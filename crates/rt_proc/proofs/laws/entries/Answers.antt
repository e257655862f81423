use Rattle.rt_proc.proofs.EntrySets.{least_lem, closed_lem}
use Rattle.rt_proc.proofs.laws.entries.Goals as goal

pub returns-clause-least : goal.returns-clause-least
returns-clause-least c = least_lem

pub returns-clause-closed : goal.returns-clause-closed
returns-clause-closed c = closed_lem
