use Rattle.std.proofs.Common.{◌≡◌, take}
use Rattle.rt_table.specs.Bodies.{numbers_in}
use Rattle.rt_solve.proofs.group.members_of.Given as goal

abbrev pub invariant-loop-number : goal.invariant-loop-number
invariant-loop-number l = l.members.items ≡ numbers_in (take l.number-index l.bodies)
