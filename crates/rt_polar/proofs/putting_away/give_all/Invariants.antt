use Rattle.std.proofs.Common.{List}
use Rattle.std.specs.BTreeSet.{contains}
use Rattle.std.specs.Ordering.{nat_cmp}
use Rattle.rt_lines.specs.declared.line.Line.{Line}
use Rattle.rt_polar.specs.Inside.Places.{ArePending, ArePlaces, lines_of}
use Rattle.rt_polar.specs.Puts.{Puts}
use Rattle.rt_polar.proofs.Falling.{sub_count}
use Rattle.rt_polar.proofs.putting_away.give_all.Given as goal

abbrev pub invariant-loop-turn : goal.invariant-loop-turn
invariant-loop-turn l = record {
  places : ArePlaces l.places;
  pending : ArePending (contains nat_cmp l.pending) l.places.slots.items;
  puts : (left : List Line) → Puts left (lines_of l.places.slots.items) → Puts left (lines_of l.fn.places.slots.items);
}

abbrev pub decreases-loop-turn : goal.decreases-loop-turn
decreases-loop-turn l = sub_count (lines_of l.places.slots.items)
