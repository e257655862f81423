use Rattle.rt_calls.proofs.Calling.{AreCalleesTo}
use Rattle.rt_calls.proofs.callees.callees_of.Given as goal

abbrev pub invariant-loop-place : goal.invariant-loop-place
invariant-loop-place l = AreCalleesTo l.graph l.places.items l.groups l.place l.callees
