use Rattle.std.proofs.Common.{◌≡◌, ℕ, ◌+◌, ◌-◌, length, get_or}
use Rattle.rt_sat.proofs.reached.widen.Given as goal

abbrev pub invariant-loop-places : goal.invariant-loop-places
invariant-loop-places l = (n : ℕ) → get_or l.places.items n 0 ≡ get_or l.fn.places.items n 0

abbrev pub decreases-loop-places : goal.decreases-loop-places
decreases-loop-places l = l.key + 1 - length l.places.items
