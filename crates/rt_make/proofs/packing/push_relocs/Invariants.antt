use Rattle.std.proofs.Common.{◌≡◌, ◌++◌, take}
use Rattle.std.specs.List.{flat_map}
use Rattle.rt_make.specs.Packed.{reloc_entry}
use Rattle.rt_make.proofs.packing.push_relocs.Given as goal

abbrev pub invariant-loop-reloc : goal.invariant-loop-reloc
invariant-loop-reloc l = l.out.items ≡ l.initial.out.items ++ flat_map reloc_entry (take l.reloc-index l.relocs)
