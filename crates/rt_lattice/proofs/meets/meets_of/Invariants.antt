use Rattle.rt_lines.specs.Orders.{IsAtOrBelow}
use Rattle.rt_lattice.specs.Bounds.{IsGreatestLower}
use Rattle.rt_lattice.specs.Grids.{IsFilledTo}
use Rattle.rt_lattice.proofs.meets.meets_of.Given as goal

abbrev pub invariant-loop-a : goal.invariant-loop-a
invariant-loop-a l = IsFilledTo (IsGreatestLower (IsAtOrBelow l.order) l.order.count) l.order.count l.a 0 l.meets
