use Rattle.std.proofs.Common.{◌≡◌, length, take}
use Rattle.rt_table.specs.Bodies.{lists_in, numbers_in}
use Rattle.rt_table.proofs.lists.numbered.Given as goal

abbrev pub invariant-loop-lines : goal.invariant-loop-lines
invariant-loop-lines l = record {
  numbers : numbers_in l.bodies.items ≡ take (length l.yielded) l.group;
  lists : lists_in l.bodies.items ≡ l.yielded;
}
