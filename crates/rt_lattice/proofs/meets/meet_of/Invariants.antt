use Rattle.rt_lines.specs.Orders.{IsAtOrBelow}
use Rattle.rt_lattice.specs.Inside.Searches.{IsHighLower}
use Rattle.rt_lattice.proofs.meets.meet_of.Given as goal

abbrev pub invariant-loop-c : goal.invariant-loop-c
invariant-loop-c l = IsHighLower (IsAtOrBelow l.order) l.order.count l.a l.b l.c l.meet
