use Rattle.std.proofs.Common.{take}
use Rattle.rt_calls.specs.Inside.Places.{AddsPlaces}
use Rattle.rt_calls.proofs.callees.add_others.Given as goal

abbrev pub invariant-loop-node : goal.invariant-loop-node
invariant-loop-node l = AddsPlaces l.places l.own (take l.node-index l.nodes) l.fn.others.items l.others.items
