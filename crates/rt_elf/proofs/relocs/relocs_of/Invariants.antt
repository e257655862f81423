use Rattle.rt_base.specs.First.{first_each}
use Rattle.rt_elf.specs.Header.{section_count}
use Rattle.rt_elf.specs.Relocs.{reloc_part, reloc_part_fault, relocs_of}
use Rattle.rt_elf.proofs.Joined.{IsJoining}
use Rattle.rt_elf.proofs.relocs.relocs_of.Given as goal

abbrev pub invariant-loop-index : goal.invariant-loop-index
invariant-loop-index l =
    IsJoining (reloc_part_fault l.bytes l.table l.symbols) (reloc_part l.bytes) (section_count l.bytes)
    l.index l.relocs (first_each (reloc_part_fault l.bytes l.table l.symbols) 0 (section_count l.bytes)) (relocs_of l.bytes)
