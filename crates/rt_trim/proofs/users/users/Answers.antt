use Rattle.std.proofs.Common.{◌<◌, length, arith}
use Rattle.rt_trim.proofs.Entering.{users_more}
use Rattle.rt_trim.proofs.users.users.Goals as goal

pub loop-i-preserved : goal.loop-i-preserved
loop-i-preserved c =
    let less : c.loop-i.i < length c.args.lines.now = omega (arith, c.loop-i-test.true) in
    users_more c.args.lines.now c.loop-i.i c.index-lines-i.result c.loop-i.users.entries c.enter_line.new.users.entries less c.index-lines-i.is
    c.loop-i.invariant c.in_ok-enter_line.ensures
