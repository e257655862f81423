use Rattle.rt_rules.proofs.Deduplicating.{deduplication_lem}
use Rattle.rt_rules.proofs.laws.deduplication.Goals as goal

pub returns : goal.returns
returns c = deduplication_lem
