use Rattle.std.proofs.Common.{inl}
use Rattle.rt_outline.proofs.Sought.{pursued_next, pursued_whole}
use Rattle.rt_outline.proofs.seeking.pursue.Goals as goal

pub loop-arc-init : goal.loop-arc-init
loop-arc-init c = λ w k. inl k

pub loop-arc-preserved : goal.loop-arc-preserved
loop-arc-preserved c =
    pursued_next c.leaving-arc-items.result.now c.loop-arc.arc-index _ c.args.known.now.numbers c.loop-arc.known.numbers c.follow.new.known.numbers c.loop-arc-test.true c.loop-arc.invariant c.in_ok-follow.ensures

pub returns : goal.returns
returns c = pursued_whole c.args.arcs.now c.args.from c.leaving-arc-items.result.now c.args.known.now.numbers c.loop-arc.known.numbers c.leaving-arc-items.ensures c.loop-arc.invariant

pub returns-then-known-eq0 : goal.returns-then-known-eq0
returns-then-known-eq0 c = pursued_whole c.args.arcs.now c.args.from c.leaving-arc-items.result.now c.args.known.now.numbers c.loop-arc.known.numbers c.leaving-arc-items.ensures c.loop-arc.invariant
