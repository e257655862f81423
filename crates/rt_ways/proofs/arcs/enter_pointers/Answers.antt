use Rattle.std.proofs.Common.{◌∙◌, arith}
use Rattle.rt_ways.proofs.Hubs.{hubs_first, hubs_next, hubs_whole}
use Rattle.rt_ways.proofs.arcs.enter_pointers.Goals as goal

pub loop-number-init : goal.loop-number-init
loop-number-init c = hubs_first c.args.frame.now c.args.arcs.now.items

pub enter_pointer-requires-clause-each : goal.enter_pointer-requires-clause-each
enter_pointer-requires-clause-each c = c.loop-number.invariant.each ∙ c.requires.each

pub loop-number-preserved : goal.loop-number-preserved
loop-number-preserved c = hubs_next c.args.frame.now c.loop-number.number c.args.arcs.now.items c.loop-number.arcs.items c.enter_pointer.new.arcs.items c.loop-number.invariant c.in_ok-enter_pointer.ensures

pub returns : goal.returns
returns c = hubs_whole c.args.frame.now c.loop-number.number c.args.arcs.now.items c.loop-number.arcs.items (omega (arith, c.loop-number-test.false, c.len-number-end.ensures.count)) c.loop-number.invariant
