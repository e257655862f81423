use Rattle.rt_ways.specs.Arcs.{AreMore}
use Rattle.rt_ways.proofs.Backwards.{IsTurnedTo}
use Rattle.rt_ways.proofs.turning.turned.Given as goal

abbrev pub invariant-loop-number : goal.invariant-loop-number
invariant-loop-number l = AreMore (IsTurnedTo l.rows l.number) l.initial.back.items l.back.items
