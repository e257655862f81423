use Rattle.rt_shape.specs.Inside.Joins.{AreEmpty}
use Rattle.rt_shape.proofs.joining.without_letters.Given as goal

abbrev pub invariant-loop : goal.invariant-loop
invariant-loop l = AreEmpty l.counter l.letters.items
