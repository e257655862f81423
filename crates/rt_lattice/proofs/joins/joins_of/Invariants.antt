use Rattle.rt_lines.specs.Orders.{IsAtOrBelow}
use Rattle.rt_lattice.specs.Bounds.{IsLeastUpper}
use Rattle.rt_lattice.specs.Grids.{IsFilledTo}
use Rattle.rt_lattice.proofs.joins.joins_of.Given as goal

abbrev pub invariant-loop-a : goal.invariant-loop-a
invariant-loop-a l = IsFilledTo (IsLeastUpper (IsAtOrBelow l.order) l.order.count) l.order.count l.a 0 l.joins
