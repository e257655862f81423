use Rattle.rt_outline.specs.Inside.Resting.{AreKnown}
use Rattle.rt_outline.proofs.resting.are_below.Given as goal

abbrev pub invariant-loop-source : goal.invariant-loop-source
invariant-loop-source l = AreKnown l.ground.named.now l.ground.arcs.now l.ground.stands.now l.known.items
