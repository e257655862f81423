use Rattle.rt_marks.proofs.Tidying.{alike_tidied, deduplication_lem}
use Rattle.rt_marks.proofs.laws.tidying.Goals as goal

pub returns-clause-once : goal.returns-clause-once
returns-clause-once c = deduplication_lem

pub returns-clause-tidied : goal.returns-clause-tidied
returns-clause-tidied c = alike_tidied
