use Rattle.std.proofs.Common.{rules}
use Rattle.rt_body.specs.Lowest.{lowest_in}
use Rattle.rt_body.proofs.symbols.Symbols.lowest.Goals as goal

pub returns-in-Some : goal.returns-in-Some
unfolding lowest_in
returns-in-Some c = search rules

pub returns-in-None : goal.returns-in-None
unfolding lowest_in
returns-in-None c = search rules
