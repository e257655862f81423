use Rattle.std.proofs.Common.{◌≡◌, take}
use Rattle.std.specs.BTreeMap.{get}
use Rattle.rt_link.specs.Links.{place_cmp}
use Rattle.rt_link.specs.declared.place.Place.{Place}
use Rattle.rt_proc.specs.Procs.{name_of_first}
use Rattle.rt_proc.proofs.names.names.Given as goal

abbrev pub invariant-loop-symbol : goal.invariant-loop-symbol
invariant-loop-symbol l = (place : Place) → get place_cmp l.names place ≡ name_of_first l.object (take l.symbol-index l.symbol-items) place
