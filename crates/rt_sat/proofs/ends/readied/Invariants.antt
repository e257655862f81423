use Rattle.rt_sat.specs.Inside.Links.{AreReady}
use Rattle.rt_sat.proofs.ends.readied.Given as goal

abbrev pub invariant-loop-group : goal.invariant-loop-group
invariant-loop-group l = AreReady l.frame.named l.frame.flips.items l.family l.links l.all.items
