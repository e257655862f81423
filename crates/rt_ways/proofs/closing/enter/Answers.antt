use Rattle.rt_ways.proofs.Entering.{pairs_first, pairs_next, pairs_whole, room_for}
use Rattle.rt_ways.proofs.closing.enter.Goals as goal

pub loop-pair-init : goal.loop-pair-init
loop-pair-init c = pairs_first c.args.fresh.now c.args.arcs.now.items

pub add-requires : goal.add-requires
add-requires c = room_for c.args.fresh.now c.loop-pair.pair-index (0, 0) c.args.arcs.now.items c.loop-pair.arcs.items c.requires c.loop-pair-test.true c.loop-pair.invariant

pub loop-pair-preserved : goal.loop-pair-preserved
loop-pair-preserved c = pairs_next c.args.fresh.now c.loop-pair.pair-index (0, 0) c.args.arcs.now.items c.loop-pair.arcs.items c.add.new.arcs.items c.loop-pair-test.true c.loop-pair.invariant c.in_ok-add.ensures

pub returns : goal.returns
returns c = pairs_whole c.args.fresh.now c.loop-pair.pair-index c.args.arcs.now.items c.loop-pair.arcs.items c.loop-pair-test.false c.loop-pair.invariant
