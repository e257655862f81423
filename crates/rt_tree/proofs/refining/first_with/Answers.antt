use Rattle.std.proofs.Common.{Some}
use Rattle.rt_tree.proofs.Firsts.{rows_updated}
use Rattle.rt_tree.proofs.refining.first_with.Goals as goal

pub returns-clause-noted : goal.returns-clause-noted
returns-clause-noted c = rows_updated c.args.row.items c.args.rows.now c.insert.new.self (Some c.args.x) c.in_ok-insert.ensures.updates
