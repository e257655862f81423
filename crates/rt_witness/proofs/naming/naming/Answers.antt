use Rattle.std.proofs.Common.{◌<◌, length, arith}
use Rattle.rt_witness.proofs.Names.{AreNaming-line, AreNaming-none}
use Rattle.rt_witness.proofs.naming.naming.Goals as goal

pub loop-i-init : goal.loop-i-init
loop-i-init c = AreNaming-none c.args.named.now c.args.lines.now c.in_ok-rows.rows.items c.len.result c.in_ok-rows.ensures

pub loop-i-preserved : goal.loop-i-preserved
loop-i-preserved c =
    let less : c.loop-i.i < length c.args.lines.now = omega (arith, c.loop-i-test.true) in
    AreNaming-line c.args.named.now c.args.lines.now c.loop-i.rows.items c.name_line.new.rows.items c.loop-i.i c.index-lines-i.result less
    c.index-lines-i.is c.loop-i.invariant c.in_ok-name_line.ensures
