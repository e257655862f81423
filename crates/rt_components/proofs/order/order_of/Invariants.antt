use Rattle.std.proofs.Common.{[]}
use Rattle.rt_components.specs.Inside.Orders.{IsQueue, left_to_come}
use Rattle.rt_components.proofs.order.order_of.Given as goal

abbrev pub invariant-loop-least : goal.invariant-loop-least
invariant-loop-least l = IsQueue l.successors l.members l.queue []

abbrev pub decreases-loop-least : goal.decreases-loop-least
decreases-loop-least l = left_to_come l.queue.come.items
