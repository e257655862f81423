use Rattle.std.proofs.Common.{◌≡◌, take}
use Rattle.rt_settle.specs.Groups.{joined}
use Rattle.rt_table.specs.Bodies.{lists_in}
use Rattle.rt_solve.proofs.group.join.Given as goal

abbrev pub invariant-loop-lines : goal.invariant-loop-lines
invariant-loop-lines l = l.all.items ≡ joined (lists_in (take l.lines-index l.bodies))
