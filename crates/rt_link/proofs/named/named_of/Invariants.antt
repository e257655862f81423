use Rattle.std.proofs.Common.{◌≡◌, take}
use Rattle.std.specs.BTreeSet.{contains}
use Rattle.std.specs.List.{list_any}
use Rattle.rt_link.specs.Links.{names, place_cmp}
use Rattle.rt_link.specs.declared.place.Place.{Place}
use Rattle.rt_link.proofs.named.named_of.Given as goal

abbrev pub invariant-loop-reloc : goal.invariant-loop-reloc
invariant-loop-reloc l =
    (q : Place) → contains place_cmp l.named q ≡ list_any (names l.object.symbols l.heads q) (take l.reloc-index l.relocs)
