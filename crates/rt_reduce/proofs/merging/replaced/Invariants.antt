use Rattle.std.proofs.Common.{◌≡◌, map, take}
use Rattle.rt_rules.specs.Put.{put}
use Rattle.rt_reduce.proofs.merging.replaced.Given as goal

abbrev pub invariant-loop-x : goal.invariant-loop-x
invariant-loop-x l = l.replaced.items ≡ map (put l.existential l.side) (take l.x-index l.sides)
