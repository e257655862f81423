use Rattle.std.proofs.Common.{ℕ, ◌<◌}
use Rattle.rt_lines.specs.Orders.{IsAtOrBelow}
use Rattle.rt_lattice.specs.Bounds.{IsBottom}
use Rattle.rt_lattice.proofs.extremes.bottom_of.Given as goal

abbrev pub invariant-loop-bottom : goal.invariant-loop-bottom
invariant-loop-bottom l = (b : ℕ) → b < l.bottom → IsBottom (IsAtOrBelow l.order) l.order.count b → ⊥
