-- The checks of an object, in order: the first that fails has the number and the place.
use Rattle.std.specs.Prelude.{ℕ, Option, List, [], ◌∷◌, length}
use Rattle.rt_base.specs.First.{first_of, first_each}
use Rattle.rt_elf.specs.declared.fault.ElfFault.{ElfFault}
use Rattle.rt_elf.specs.Header.{section_count, header_fault}
use Rattle.rt_elf.specs.Sections.{sections_of, sections_fault}
use Rattle.rt_elf.specs.Symbols.{symbol_table, symbol_part_fault, symbols_of}
use Rattle.rt_elf.specs.Relocs.{reloc_part_fault}

unfoldable pub first_fault : List ℕ → Option ElfFault
first_fault bytes = let table = symbol_table (sections_of bytes) in first_of (
    header_fault bytes
    ∷ sections_fault bytes
    ∷ symbol_part_fault bytes (sections_of bytes) table
    ∷ first_each (reloc_part_fault bytes table (length (symbols_of bytes))) 0 (section_count bytes)
    ∷ [])
