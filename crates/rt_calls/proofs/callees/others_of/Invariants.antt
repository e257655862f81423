use Rattle.std.proofs.Common.{take}
use Rattle.rt_calls.specs.Inside.Places.{ArePlacesOf}
use Rattle.rt_calls.proofs.callees.others_of.Given as goal

abbrev pub invariant-loop-member : goal.invariant-loop-member
invariant-loop-member l = ArePlacesOf l.graph l.places l.own (take l.member-index l.members) l.others.items
