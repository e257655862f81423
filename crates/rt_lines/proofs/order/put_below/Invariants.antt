use Rattle.rt_lines.specs.Orders.{IsAtOrBelow}
use Rattle.rt_lines.specs.OrderFacts.{order_of}
use Rattle.rt_lines.proofs.OrderCells.{HasRows}
use Rattle.rt_lines.proofs.order.put_below.Given as goal

abbrev pub invariant-loop-x : goal.invariant-loop-x
invariant-loop-x l = HasRows (IsAtOrBelow (order_of l.count l.fn.cells)) (IsAtOrBelow (order_of l.count l.cells)) l.count l.a l.b l.x
