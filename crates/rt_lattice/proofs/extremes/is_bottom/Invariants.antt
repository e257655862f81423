use Rattle.std.proofs.Common.{ℕ, ◌<◌}
use Rattle.rt_lines.specs.Orders.{IsAtOrBelow}
use Rattle.rt_lattice.proofs.extremes.is_bottom.Given as goal

abbrev pub invariant-loop-a : goal.invariant-loop-a
invariant-loop-a l = (x : ℕ) → x < l.a → IsAtOrBelow l.order l.bottom x
