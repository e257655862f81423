use Rattle.std.proofs.Common.{sym}
use Rattle.rt_flow.proofs.Definitions.{decided}
use Rattle.rt_flow.proofs.rows.has_last.Goals as goal

pub returns-in-Some : goal.returns-in-Some
returns-in-Some c =
    let item = c.in-Some.ensures.item in
    decided c.args.row.now c.args.def c.in-Some.last.now c.requires.order c.requires.upto item.3.0 (sym item.1) c.eq.result c.eq.ensures
