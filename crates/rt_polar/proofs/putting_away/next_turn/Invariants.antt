use Rattle.std.specs.BTreeSet.{btree_set_len, contains}
use Rattle.std.specs.Ordering.{nat_cmp}
use Rattle.rt_polar.specs.Inside.Places.{ArePending}
use Rattle.rt_polar.proofs.putting_away.next_turn.Given as goal

abbrev pub invariant-loop-v : goal.invariant-loop-v
invariant-loop-v l = ArePending (contains nat_cmp l.pending) l.places.slots.items

abbrev pub decreases-loop-v : goal.decreases-loop-v
decreases-loop-v l = btree_set_len l.pending
