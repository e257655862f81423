use Rattle.std.proofs.Common.{◌+◌, ◌*◌}
use Rattle.rt_outline.specs.Inside.Resting.{AreKnown, AreMoreRested, AreRested}
use Rattle.rt_outline.proofs.resting.+resting.Given as goal

abbrev pub decreases-is_pushed : goal.decreases-is_pushed
decreases-is_pushed l = 6 * l.depth

abbrev pub decreases-rests : goal.decreases-rests
decreases-rests l = 6 * l.depth + 1

abbrev pub decreases-take : goal.decreases-take
decreases-take l = 6 * l.depth + 2

abbrev pub decreases-step : goal.decreases-step
decreases-step l = 6 * l.depth + 3

abbrev pub decreases-reach : goal.decreases-reach
decreases-reach l = 6 * l.depth + 4

abbrev pub decreases-leads : goal.decreases-leads
decreases-leads l = 6 * l.depth + 5

abbrev pub invariant-reach-loop-i : goal.invariant-reach-loop-i
invariant-reach-loop-i l = AreKnown l.ground.named.now l.ground.arcs.now l.ground.stands.now l.known.items × AreRested l.ground.named.now l.ground.arcs.now l.ground.stands.now l.source l.found

abbrev pub invariant-step-loop-arc : goal.invariant-step-loop-arc
invariant-step-loop-arc l = AreKnown l.ground.named.now l.ground.arcs.now l.ground.stands.now l.known.items × AreMoreRested l.ground.named.now l.ground.arcs.now l.ground.stands.now l.from l.fn.found l.found
