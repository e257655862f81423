use Rattle.std.proofs.Common.{take}
use Rattle.rt_lines.specs.Orders.{IsAtOrBelow}
use Rattle.rt_outline.specs.Inside.Bounds.{AreBoundsAt}
use Rattle.rt_outline.proofs.bounds.above.Given as goal

abbrev pub invariant-loop-bound : goal.invariant-loop-bound
invariant-loop-bound l = AreBoundsAt (IsAtOrBelow l.order l.k) l.stands (take l.bound-index l.bounds) l.numbers.items
