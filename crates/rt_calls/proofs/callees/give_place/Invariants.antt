use Rattle.std.proofs.Common.{take}
use Rattle.rt_calls.specs.Inside.Places.{GivesPlace}
use Rattle.rt_calls.proofs.callees.give_place.Given as goal

abbrev pub invariant-loop-member : goal.invariant-loop-member
invariant-loop-member l = GivesPlace (take l.member-index l.members) l.place l.fn.places l.places
