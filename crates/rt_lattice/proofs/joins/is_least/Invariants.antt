use Rattle.rt_lines.specs.Orders.{IsAtOrBelow}
use Rattle.rt_lattice.specs.Inside.Searches.{IsBelowUppers}
use Rattle.rt_lattice.proofs.joins.is_least.Given as goal

abbrev pub invariant-loop-c : goal.invariant-loop-c
invariant-loop-c l = IsBelowUppers (IsAtOrBelow l.order) l.a l.b l.c l.low
