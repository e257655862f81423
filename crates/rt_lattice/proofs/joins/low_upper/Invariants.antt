use Rattle.rt_lines.specs.Orders.{IsAtOrBelow}
use Rattle.rt_lattice.specs.Inside.Searches.{IsLowUpper}
use Rattle.rt_lattice.proofs.joins.low_upper.Given as goal

abbrev pub invariant-loop-c : goal.invariant-loop-c
invariant-loop-c l = IsLowUpper (IsAtOrBelow l.order) l.order.count l.a l.b l.c l.low
