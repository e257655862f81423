use Rattle.rt_lines.specs.Orders.{IsAtOrBelow}
use Rattle.rt_lattice.specs.Bounds.{IsLeastUpper}
use Rattle.rt_lattice.specs.Grids.{IsFilledTo}
use Rattle.rt_lattice.proofs.joins.push_row.Given as goal

abbrev pub invariant-loop-b : goal.invariant-loop-b
invariant-loop-b l = IsFilledTo (IsLeastUpper (IsAtOrBelow l.order) l.order.count) l.order.count l.a l.b l.joins
