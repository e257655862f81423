use Rattle.rt_bridge.proofs.Lawful.{ways_law, table_law}
use Rattle.rt_bridge.proofs.laws.table.Goals as goal

pub returns-clause-ways : goal.returns-clause-ways
returns-clause-ways c = ways_law

pub returns-clause-below : goal.returns-clause-below
returns-clause-below c = table_law
