-- The order of places: by sections, and in these by offsets.
use Rattle.std.specs.Prelude.{◌≡◌, ◌<◌, ◌⊎◌, AllPairs, List}
use Rattle.std.specs.declared.cmp.Ordering.{Ordering}
use Rattle.std.specs.Ordering.{nat_cmp, ordering_then}
use Rattle.rt_link.specs.declared.place.Place.{Place}

-- a place comes before another
abbrev pub IsBelow : Place → Place → Type 0
IsBelow p q = (p.section < q.section) ⊎ ((p.section ≡ q.section) × (p.offset < q.offset))

-- each place comes before those after it in the list
abbrev pub AreAscending : List Place → Type 0
AreAscending places = AllPairs IsBelow places

-- the same order as `cmp` computes it
abbrev pub place_cmp : Place → Place → Ordering
place_cmp p q = ordering_then (nat_cmp p.section q.section) (nat_cmp p.offset q.offset)
