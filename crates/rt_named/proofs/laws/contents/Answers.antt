use Rattle.rt_named.proofs.Contents.{contents_law, once_law}
use Rattle.rt_named.proofs.laws.contents.Goals as goal

pub returns-clause-prefixes : goal.returns-clause-prefixes
returns-clause-prefixes c = contents_law

pub returns-clause-once : goal.returns-clause-once
returns-clause-once c = once_law
