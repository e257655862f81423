-- The sections (ELF gABI, "Sections"), and the checks of each section header.
use Rattle.std.specs.Prelude.{ℕ, ◌+◌, ◌/◌, ◌%◌, ◌<◌, ◌≤◌, ◌^◌, ◌==◌, ◌&&◌, nat_lt, not, Bool, IsTrue, Option, List, [], ◌∷◌, length}
use Rattle.std.specs.Prelude.{slice_range}
use Rattle.rt_base.specs.First.{fault_if, first_of, first_each, entries}
use Rattle.rt_elf.specs.declared.fault.ElfFault.{ElfFault}
use Rattle.rt_elf.specs.declared.fault.ElfFault.TheVariants.{Bad}
use Rattle.rt_elf.specs.declared.section.Section.{Section}
use Rattle.rt_elf.specs.Fields.{word_at}
use Rattle.rt_elf.specs.Header.{header_place, section_count}

-- the section header at a place: sh_type, sh_flags, sh_offset, sh_size, sh_link, sh_info
abbrev pub section_at : List ℕ → ℕ → Section
section_at bytes h = record {
  kind = word_at bytes (h + 4);
  flags = word_at bytes (h + 8);
  offset = word_at bytes (h + 16);
  size = word_at bytes (h + 20);
  link = word_at bytes (h + 24);
  info = word_at bytes (h + 28);
}

-- the section of an index
abbrev pub section_by : List ℕ → ℕ → Section
section_by bytes index = section_at bytes (header_place bytes index)

-- all sections, in order
abbrev pub sections_of : List ℕ → List Section
sections_of bytes = entries (section_by bytes) 0 (section_count bytes)

-- a section whose bytes are in the file: neither SHT_NULL nor SHT_NOBITS
abbrev pub has_bytes : Section → Bool
has_bytes section = not (section.kind == 0) && not (section.kind == 8)

-- executable: SHT_PROGBITS with SHF_EXECINSTR
abbrev pub is_code_section : Section → Bool
is_code_section section = (section.kind == 1) && (section.flags / 4 % 2 == 1)

-- data: SHT_PROGBITS with SHF_ALLOC
abbrev pub is_data_section : Section → Bool
is_data_section section = (section.kind == 1) && (section.flags / 2 % 2 == 1)

-- compressed: SHF_COMPRESSED, 0x800
abbrev pub is_compressed : Section → Bool
is_compressed section = section.flags / 2 ^ 11 % 2 == 1

-- the checks of the section header at a place
unfoldable pub section_fault : List ℕ → ℕ → Option ElfFault
section_fault bytes h = let section = section_at bytes h in first_of (
    fault_if (has_bytes section && nat_lt (length bytes) (section.offset + section.size)) (Bad 9 (h + 16))
    ∷ fault_if (is_compressed section) (Bad 15 (h + 8))
    ∷ [])

-- of all section headers, in order
abbrev pub sections_fault : List ℕ → Option ElfFault
sections_fault bytes = first_each (λ k. section_fault bytes (header_place bytes k)) 0 (section_count bytes)

-- what these checks establish: the bytes of a section lie in the file
abbrev pub AreWithin : List ℕ → Type 0
AreWithin bytes =
    (k : ℕ) → k < section_count bytes → IsTrue (has_bytes (section_by bytes k))
    → (section_by bytes k).offset + (section_by bytes k).size ≤ length bytes

-- the bytes of a section
abbrev pub bytes_of : List ℕ → Section → List ℕ
bytes_of bytes section = slice_range bytes section.offset (section.offset + section.size)

-- an index with a section of a type
abbrev pub is_kind_at : List ℕ → ℕ → ℕ → Bool
is_kind_at bytes kind index = nat_lt index (section_count bytes) && ((section_by bytes index).kind == kind)
