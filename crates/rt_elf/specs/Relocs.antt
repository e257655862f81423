-- The relocations of code and of data (ELF gABI, "Relocation"), and the checks of them.
use Rattle.std.specs.Prelude.{ℕ, zero, suc, ◌+◌, ◌*◌, ◌/◌, ◌%◌, ◌==◌, ◌&&◌, ◌||◌, nat_lt, not, Bool, false, Option, Some, None, List, []}
use Rattle.std.specs.Prelude.{◌∷◌, ◌++◌, if◌then◌else◌}
use Rattle.std.specs.Int.{w32, cast_signed}
use Rattle.rt_base.specs.First.{fault_if, first_of, first_each, entries}
use Rattle.rt_elf.specs.declared.fault.ElfFault.{ElfFault}
use Rattle.rt_elf.specs.declared.fault.ElfFault.TheVariants.{Bad}
use Rattle.rt_elf.specs.declared.section.Section.{Section}
use Rattle.rt_elf.specs.declared.reloc.Reloc.{Reloc}
use Rattle.rt_elf.specs.Fields.{word_at}
use Rattle.rt_elf.specs.Header.{header_place, section_count}
use Rattle.rt_elf.specs.Sections.{section_by, is_code_section, is_data_section}

-- SHT_RELA and SHT_REL
abbrev pub is_reloc_section : Section → Bool
is_reloc_section section = (section.kind == 4) || (section.kind == 9)

-- SHT_REL, without addends, where the section that is changed, sh_info, is executable
abbrev pub lacks_addends : List ℕ → Section → Bool
lacks_addends bytes section = (section.kind == 9) && is_code_section (section_by bytes section.info)

-- SHT_RELA, where the section that is changed is of code or of data: its relocations are read
abbrev pub is_read : List ℕ → Section → Bool
is_read bytes section = let about = section_by bytes section.info in
    (section.kind == 4) && (is_code_section about || is_data_section about)

-- an index is that of the symbol table
abbrev pub is_index : ℕ → Option ℕ → Bool
is_index index None = false
is_index index (Some k) = index == k

-- the relocation at a place, of a section: r_offset, r_info, r_addend
abbrev pub reloc_at : List ℕ → ℕ → ℕ → Reloc
reloc_at bytes section r = record {
  section = section;
  offset = word_at bytes r;
  kind = word_at bytes (r + 4) % 256;
  symbol = word_at bytes (r + 4) / 256;
  addend = cast_signed w32 (word_at bytes (r + 8));
}

-- the check of the relocation at a place, where there are so many symbols
abbrev pub reloc_fault : List ℕ → ℕ → ℕ → Option ElfFault
reloc_fault bytes symbols r = fault_if (not (nat_lt (word_at bytes (r + 4) / 256) symbols)) (Bad 14 (r + 4))

-- of each of the relocations of a section, 12 bytes each
abbrev pub relocs_fault : List ℕ → ℕ → Section → Option ElfFault
relocs_fault bytes symbols section =
    first_each (λ j. reloc_fault bytes symbols (section.offset + 12 * j)) 0 (section.size / 12)

-- the checks of the header of relocations that are read: sh_entsize, sh_size, and sh_link, which is the index of the
-- symbol table
unfoldable pub reloc_header_fault : List ℕ → Option ℕ → ℕ → Option ElfFault
reloc_header_fault bytes table k = let h = header_place bytes k in first_of (
    fault_if (not (word_at bytes (h + 36) == 12)) (Bad 13 (h + 36))
    ∷ fault_if (not ((section_by bytes k).size % 12 == 0)) (Bad 13 (h + 20))
    ∷ fault_if (not (is_index (section_by bytes k).link table)) (Bad 13 (h + 24))
    ∷ [])

-- the checks of a section of relocations: it is about a section, it has addends if that is executable, and if it is
-- read, its header and each relocation
unfoldable pub reloc_section_fault : List ℕ → Option ℕ → ℕ → ℕ → Option ElfFault
reloc_section_fault bytes table symbols k = let section = section_by bytes k in first_of (
    fault_if (not (nat_lt section.info (section_count bytes))) (Bad 13 (header_place bytes k + 28))
    ∷ fault_if (lacks_addends bytes section) (Bad 13 (header_place bytes k + 4))
    ∷ (if is_read bytes section
    then first_of (reloc_header_fault bytes table k ∷ relocs_fault bytes symbols section ∷ [])
    else None)
    ∷ [])

-- of the section of an index, where there are so many symbols in a table
abbrev pub reloc_part_fault : List ℕ → Option ℕ → ℕ → ℕ → Option ElfFault
reloc_part_fault bytes table symbols k =
    if is_reloc_section (section_by bytes k) then reloc_section_fault bytes table symbols k else None

-- the relocations of a section
abbrev pub section_relocs : List ℕ → Section → List Reloc
section_relocs bytes section = entries (λ j. reloc_at bytes section.info (section.offset + 12 * j)) 0 (section.size / 12)

-- the relocations of the section of an index, if they are read
abbrev pub reloc_part : List ℕ → ℕ → List Reloc
reloc_part bytes k = let section = section_by bytes k in if is_read bytes section then section_relocs bytes section else []

-- the lists from index i on, n of them, one after the other
abbrev pub joined : {X : Type 0} → (ℕ → List X) → ℕ → ℕ → List X
joined at i zero = []
joined at i (suc n) = at i ++ joined at (i + 1) n

-- all relocations of code and of data, by sections of relocations and in these by places
abbrev pub relocs_of : List ℕ → List Reloc
relocs_of bytes = joined (reloc_part bytes) 0 (section_count bytes)
