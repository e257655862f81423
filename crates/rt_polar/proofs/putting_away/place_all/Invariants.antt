use Rattle.std.proofs.Common.{◌≡◌}
use Rattle.rt_polar.specs.Inside.Places.{ArePlaces, lines_of}
use Rattle.rt_polar.specs.Tidied.{tidied}
use Rattle.rt_polar.proofs.putting_away.place_all.Given as goal

abbrev pub invariant-loop-line : goal.invariant-loop-line
invariant-loop-line l = record {
  can : (goal.iterator-loop-line).can_next l.line-iterator;
  finite : (goal.iterator-loop-line).is_finite l.line-iterator;
  places : ArePlaces l.places;
  tidy : lines_of l.places.slots.items ≡ tidied l.yielded;
}
