use Rattle.std.proofs.Common.{arith}
use Rattle.rt_ways.proofs.Noding.{behind_none, behind_whole}
use Rattle.rt_ways.proofs.nodes.behind_of.Goals as goal

pub loop-number-init : goal.loop-number-init
loop-number-init c = behind_none c.args.named.now c.args.groups.now c.new-behind.result.entries c.new-behind.ensures.empty

pub loop-number-preserved : goal.loop-number-preserved
loop-number-preserved c = c.in_ok-enter_behind.ensures

pub returns : goal.returns
returns c = behind_whole c.args.named.now c.args.groups.now c.loop-number.number c.loop-number.behind.entries (omega (arith, c.loop-number-test.false, c.len-number-end.ensures.count)) c.loop-number.invariant
