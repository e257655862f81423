use Rattle.std.proofs.Common.{length}
use Rattle.rt_calls.specs.Inside.Places.{ArePlaces}
use Rattle.rt_calls.proofs.callees.places_of.Given as goal

abbrev pub invariant-loop-place : goal.invariant-loop-place
invariant-loop-place l = ArePlaces l.groups (length l.procs) l.place l.places.items
