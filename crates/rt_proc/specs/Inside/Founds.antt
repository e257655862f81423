-- Places that were found.
use Rattle.std.specs.Prelude.{◌≡◌}
use Rattle.std.specs.BTreeSet.{contains}
use Rattle.std.specs.List.{list_any}
use Rattle.rt_link.specs.Effects.{is_place}
use Rattle.rt_link.specs.Links.{place_cmp}
use Rattle.rt_link.specs.declared.place.Place.{Place}
use Rattle.rt_proc.specs.declared.found.Found.{Found}

-- the set is that of the list
abbrev pub HasFound : Found → Type 0
HasFound found = (q : Place) → contains place_cmp found.set q ≡ list_any (is_place q) found.places.items
