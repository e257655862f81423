use Rattle.std.proofs.Common.{◌≢◌, ℕ, ◌<◌}
use Rattle.rt_lines.specs.Orders.{IsAtOrBelow}
use Rattle.rt_lattice.proofs.extremes.has_partner.Given as goal

abbrev pub invariant-loop-b : goal.invariant-loop-b
invariant-loop-b l = (x : ℕ) → x < l.b → l.a ≢ x → IsAtOrBelow l.order l.a x → IsAtOrBelow l.order x l.a → ⊥
