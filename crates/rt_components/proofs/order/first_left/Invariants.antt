use Rattle.std.proofs.Common.{ℕ, ◌-◌, ◌<◌, ◌≤◌, length, slice_index}
use Rattle.rt_components.specs.Inside.Orders.{HasCome}
use Rattle.rt_components.proofs.order.first_left.Given as goal

abbrev pub invariant-loop-next : goal.invariant-loop-next
invariant-loop-next l = (e : ℕ) → l.from ≤ e → e < l.next → e < length l.successors → HasCome l.come (slice_index l.successors e)

abbrev pub decreases-loop-next : goal.decreases-loop-next
decreases-loop-next l = length l.successors - l.next
