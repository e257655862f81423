use Rattle.std.proofs.Common.{ℕ, ◌<◌}
use Rattle.rt_lines.specs.Orders.{IsAtOrBelow}
use Rattle.rt_lattice.specs.Bounds.{IsTop}
use Rattle.rt_lattice.proofs.extremes.top_of.Given as goal

abbrev pub invariant-loop-top : goal.invariant-loop-top
invariant-loop-top l = (t : ℕ) → t < l.top → IsTop (IsAtOrBelow l.order) l.order.count t → ⊥
