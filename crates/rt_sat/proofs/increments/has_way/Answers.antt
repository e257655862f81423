use Rattle.std.proofs.Common.{sym}
use Rattle.rt_sat.proofs.Adding.{nought_told}
use Rattle.rt_sat.proofs.increments.has_way.Goals as goal

pub returns : goal.returns
returns c = λ found known flips lines told.
    nought_told known flips lines c.args.family.now c.args.from c.args.to c.in-Some.left c.in-Some-home.right c.index.result.now c.row.result.now
    c.in-Some.ensures.home c.in-Some-home.ensures.home (sym c.if-left-right.false) c.requires.1.each c.index.ensures c.row.ensures.row c.row.ensures.long found told
