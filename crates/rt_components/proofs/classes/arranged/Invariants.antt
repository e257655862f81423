use Rattle.std.proofs.Common.{◌≡◌, map, take}
use Rattle.rt_components.specs.Groups.{group_at}
use Rattle.rt_components.proofs.classes.arranged.Given as goal

abbrev pub invariant-loop-class : goal.invariant-loop-class
invariant-loop-class l = l.groups ≡ map (group_at l.members) (take l.class-index l.order)
