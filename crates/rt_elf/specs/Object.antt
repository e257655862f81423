-- What an object holds.
use Rattle.std.specs.Prelude.{◌≡◌, ℕ, ◌+◌, ◌*◌, ◌/◌, ◌%◌, ◌^◌, ◌<◌, ◌≤◌, ◌||◌, nat_lt, IsTrue, All, List, length, get_or}
use Rattle.rt_base.specs.First.{entries}
use Rattle.rt_elf.specs.declared.section.Section.{Section}
use Rattle.rt_elf.specs.declared.reloc.Reloc.{Reloc}
use Rattle.rt_elf.specs.declared.symbol.Symbol.{Symbol}
use Rattle.rt_elf.specs.Fields.{word_at}
use Rattle.rt_elf.specs.Parts.{Parts as Object}
use Rattle.rt_elf.specs.Sections.{sections_of, is_code_section, is_data_section}
use Rattle.rt_elf.specs.Symbols.{symbols_of, is_special}
use Rattle.rt_elf.specs.Relocs.{relocs_of}

-- the object's parts are the fields at their places
pub record IsObject (bytes : List ℕ) (object : Object) : Type 0 where
  pub sections : object.sections ≡ sections_of bytes
  pub symbols : object.symbols ≡ symbols_of bytes
  pub relocs : object.relocs ≡ relocs_of bytes
  pub bytes_kept : object.bytes ≡ bytes

-- an empty section, SHT_NULL
abbrev pub null_section : Section
null_section = record { kind = 0; flags = 0; offset = 0; size = 0; link = 0; info = 0 }

-- the section of an index, which is empty where there is none
abbrev pub section_of : Object → ℕ → Section
section_of object index = get_or object.sections index null_section

-- a word stands at an offset of a section of code
pub record HasWord (object : Object) (index offset : ℕ) : Type 0 where
  pub is_code : IsTrue (is_code_section (section_of object index))
  pub is_aligned : offset % 4 ≡ 0
  pub is_within : offset + 4 ≤ (section_of object index).size

-- the sections of code lie in the file
abbrev pub IsInFile : Object → Type 0
IsInFile object =
    (index : ℕ) → IsTrue (is_code_section (section_of object index))
    → (section_of object index).offset + (section_of object index).size ≤ length object.bytes

-- a relocation is of a section of code or of data, and about a symbol of the object
abbrev pub IsOfObject : Object → Reloc → Type 0
IsOfObject object reloc = let section = section_of object reloc.section in
    IsTrue (is_code_section section || is_data_section section) × (reloc.symbol < length object.symbols)

-- a symbol is of a section of the object, or of none: SHN_UNDEF, SHN_ABS, SHN_COMMON
abbrev pub HasSection : Object → Symbol → Type 0
HasSection object symbol = IsTrue (is_special symbol.section || nat_lt symbol.section (length object.sections))

-- the links of an object can be read: its relocations are of its code and data and about its symbols, and the
-- indices of sections and symbols fit their types
pub record IsLinkable (object : Object) : Type 0 where
  pub relocs : All (IsOfObject object) object.relocs
  pub sections_fit : length object.sections < 2 ^ 16
  pub symbols_fit : length object.symbols < 2 ^ 32

-- what each object keeps
pub record IsSound (object : Object) : Type 0 where
  pub in_file : IsInFile object
  pub linkable : IsLinkable object
  pub symbols : All (HasSection object) object.symbols

-- the words of a section, in order
abbrev pub section_words : Object → ℕ → List ℕ
section_words object index =
    entries (λ k. word_at object.bytes ((section_of object index).offset + 4 * k)) 0 ((section_of object index).size / 4)
