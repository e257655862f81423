use Rattle.rt_lines.specs.Orders.{IsAtOrBelow}
use Rattle.rt_lines.specs.OrderFacts.{order_of}
use Rattle.rt_lines.proofs.OrderCells.{HasRow}
use Rattle.rt_lines.proofs.order.put_row.Given as goal

abbrev pub invariant-loop-y : goal.invariant-loop-y
invariant-loop-y l = HasRow (IsAtOrBelow (order_of l.count l.fn.cells)) (IsAtOrBelow (order_of l.count l.cells)) l.count l.x l.b l.y
