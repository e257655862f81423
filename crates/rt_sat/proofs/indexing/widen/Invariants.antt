use Rattle.std.proofs.Common.{◌≡◌, ℕ, ◌+◌, ◌-◌, [], length, get_or}
use Rattle.rt_sat.proofs.indexing.widen.Given as goal

abbrev pub invariant-loop-alloc : goal.invariant-loop-alloc
invariant-loop-alloc l = (v : ℕ) → get_or l.out.items v [] ≡ get_or l.fn.out.items v []

abbrev pub decreases-loop-alloc : goal.decreases-loop-alloc
decreases-loop-alloc l = l.key + 1 - length l.out.items
