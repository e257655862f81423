use Rattle.std.proofs.Common.{◌≡◌, map, take}
use Rattle.rt_track.specs.Inside.Nodes.{value_in}
use Rattle.rt_track.proofs.values.valued.Given as goal

abbrev pub invariant-loop-site : goal.invariant-loop-site
invariant-loop-site l = l.values.items ≡ map (λ c. (c.0, value_in l.states c.1)) (take l.site-index l.changes)
