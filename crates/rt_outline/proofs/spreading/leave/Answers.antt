use Rattle.rt_outline.proofs.Following.{arcs_next, arcs_whole}
use Rattle.rt_outline.proofs.spreading.leave.Goals as goal

pub loop-arc-preserved : goal.loop-arc-preserved
loop-arc-preserved c =
    arcs_next c.args.stands.now c.args.pushed c.leaving-arc-items.result.now c.loop-arc.arc-index _ c.args.found.now c.loop-arc.found c.follow.new.found c.loop-arc-test.true c.loop-arc.invariant c.in_ok-follow.ensures

pub returns : goal.returns
returns c =
    arcs_whole c.args.stands.now c.args.pushed c.args.arcs.now c.args.from c.leaving-arc-items.result.now c.loop-arc.arc-index c.args.found.now c.loop-arc.found c.leaving-arc-items.ensures c.loop-arc-test.false c.loop-arc.invariant
