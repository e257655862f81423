use Rattle.std.proofs.lemmas.Map.Keys.{IsStrictlyIncreasing-from_sorted}
use Rattle.rt_run.proofs.globals.named.Goals as goal

pub returns-clause-ascending : goal.returns-clause-ascending
returns-clause-ascending c = IsStrictlyIncreasing-from_sorted _ c.into_iter-number-iterator.ensures.into_iter_gives.4
