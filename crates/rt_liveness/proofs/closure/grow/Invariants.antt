use Rattle.std.proofs.Common.{◌≡◌, ℕ, ◌-◌, vec_len}
use Rattle.rt_liveness.specs.Inside.Closures.{rules_at}
use Rattle.rt_liveness.proofs.closure.grow.Given as goal

abbrev pub invariant-loop-alloc : goal.invariant-loop-alloc
invariant-loop-alloc l = (p : ℕ) → rules_at l.table.items p ≡ rules_at l.initial.table.items p

abbrev pub decreases-loop-alloc : goal.decreases-loop-alloc
decreases-loop-alloc l = l.count - vec_len l.table
