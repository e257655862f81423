use Rattle.std.proofs.Common.{ℕ, ◌<◌}
use Rattle.rt_lines.specs.Orders.{IsAtOrBelow}
use Rattle.rt_lattice.specs.Bounds.{HasPartner}
use Rattle.rt_lattice.proofs.extremes.cycle_of.Given as goal

abbrev pub invariant-loop-a : goal.invariant-loop-a
invariant-loop-a l = (x : ℕ) → x < l.a → HasPartner (IsAtOrBelow l.order) l.order.count x → ⊥
