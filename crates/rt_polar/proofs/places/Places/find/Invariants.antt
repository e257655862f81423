use Rattle.std.proofs.Common.{ℕ, ◌<◌, ◌-◌, length}
use Rattle.rt_polar.specs.Inside.Places.{Holds}
use Rattle.rt_polar.proofs.places.Places.find.Given as goal

-- no slot before one holds the line
abbrev pub invariant-loop-slot : goal.invariant-loop-slot
invariant-loop-slot l = (i : ℕ) → i < l.from → Holds l.self.slots.items i l.row → ⊥

abbrev pub decreases-loop-slot : goal.decreases-loop-slot
decreases-loop-slot l = length l.self.slots.items - l.from
