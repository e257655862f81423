use Rattle.rt_ways.specs.Arcs.{AreMore}
use Rattle.rt_ways.specs.Inside.Frames.{IsToHub}
use Rattle.rt_ways.proofs.arcs.enter_pointers.Given as goal

abbrev pub invariant-loop-number : goal.invariant-loop-number
invariant-loop-number l = AreMore (IsToHub l.frame l.number) l.fn.arcs.items l.arcs.items
