use Rattle.rt_settle.proofs.Marks.{chosen_loosely, chosen_marks}
use Rattle.rt_settle.proofs.laws.marks.Goals as goal

pub returns-clause-alike : goal.returns-clause-alike
returns-clause-alike c = chosen_loosely

pub returns-clause-loose : goal.returns-clause-loose
returns-clause-loose c = chosen_marks
