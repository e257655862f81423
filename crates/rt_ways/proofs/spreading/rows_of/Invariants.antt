use Rattle.rt_ways.specs.Arcs.{AreRows, IsInRow}
use Rattle.rt_ways.proofs.spreading.rows_of.Given as goal

abbrev pub invariant-loop-number : goal.invariant-loop-number
invariant-loop-number l = AreRows (IsInRow l.arcs) l.number l.rows.items
