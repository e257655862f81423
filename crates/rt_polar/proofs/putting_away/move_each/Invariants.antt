use Rattle.std.proofs.Common.{◌-◌, length}
use Rattle.std.specs.BTreeSet.{contains}
use Rattle.std.specs.Ordering.{nat_cmp}
use Rattle.rt_polar.specs.Index.{has}
use Rattle.rt_polar.specs.Inside.Places.{ArePlaces}
use Rattle.rt_polar.proofs.Moving.{AreMoved}
use Rattle.rt_polar.proofs.putting_away.move_each.Given as goal

abbrev pub invariant-loop-slot : goal.invariant-loop-slot
invariant-loop-slot l = record {
  places : ArePlaces l.places;
  moved : AreMoved l.v l.side l.from l.initial.places.slots.items l.places.slots.items (has l.places.naming) (contains nat_cmp l.initial.pending) (contains nat_cmp l.pending);
}

abbrev pub decreases-loop-slot : goal.decreases-loop-slot
decreases-loop-slot l = length l.initial.places.slots.items - l.from
