use Rattle.std.proofs.Common.{◌≡◌, find, take}
use Rattle.std.specs.Option.{option_map}
use Rattle.rt_link.specs.Links.{pointer_of, pointer_held}
use Rattle.rt_link.specs.Pointers.{is_pointer}
use Rattle.rt_link.specs.declared.place.Place.{Place}
use Rattle.rt_link.proofs.pointers.pointers_of.Given as goal

abbrev pub invariant-loop-reloc : goal.invariant-loop-reloc
invariant-loop-reloc l =
    (q : Place) → pointer_held l.pointers q ≡ option_map pointer_of (find (is_pointer l.object q) (take l.reloc-index l.object.relocs))
