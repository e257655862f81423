use Rattle.std.proofs.Common.{◌≡◌, map, take}
use Rattle.rt_track.specs.Inside.Nodes.{value_in}
use Rattle.rt_track.proofs.values.use_values.Given as goal

abbrev pub invariant-loop-changes : goal.invariant-loop-changes
invariant-loop-changes l = l.values.items ≡ map (map (λ c. (c.0, value_in l.states c.1))) (take l.changes-index l.uses)
