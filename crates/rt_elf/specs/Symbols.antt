-- The symbol table (ELF gABI, "Symbol Table"), and the checks of it.
use Rattle.std.specs.Prelude.{ℕ, zero, suc, ◌+◌, ◌-◌, ◌*◌, ◌/◌, ◌%◌, ◌==◌, ◌&&◌, ◌||◌, nat_lt, not, Bool, Option, Some, None, List, []}
use Rattle.std.specs.Prelude.{◌∷◌, drop, position}
use Rattle.std.specs.Option.{option_map}
use Rattle.rt_base.specs.First.{fault_if, first_of, first_each, entries}
use Rattle.rt_elf.specs.declared.fault.ElfFault.{ElfFault}
use Rattle.rt_elf.specs.declared.fault.ElfFault.TheVariants.{Bad}
use Rattle.rt_elf.specs.declared.section.Section.{Section}
use Rattle.rt_elf.specs.declared.symbol.Symbol.{Symbol}
use Rattle.rt_elf.specs.Fields.{byte_at, half_at, word_at}
use Rattle.rt_elf.specs.Header.{header_place, section_count}
use Rattle.rt_elf.specs.Names.{name_at, has_end}
use Rattle.rt_elf.specs.Sections.{section_by, sections_of, is_kind_at, bytes_of}

-- SHT_SYMTAB
abbrev pub is_symbol_table : Section → Bool
is_symbol_table section = section.kind == 2

-- the index of the symbol table, if there is one
abbrev pub symbol_table : List Section → Option ℕ
symbol_table sections = position is_symbol_table sections

-- a second symbol table, after the one of an index, is a fault at its header
abbrev pub second_fault : List ℕ → List Section → ℕ → Option ElfFault
second_fault bytes sections k =
    option_map (λ j. Bad 10 (header_place bytes (k + 1 + j))) (symbol_table (drop (k + 1) sections))

-- the checks of the symbol table of an index: it is the only one, sh_entsize, sh_size, and sh_link, which is the
-- index of a string table, SHT_STRTAB
unfoldable pub symbol_table_fault : List ℕ → List Section → ℕ → Option ElfFault
symbol_table_fault bytes sections k = let h = header_place bytes k in first_of (
    second_fault bytes sections k
    ∷ fault_if (not (word_at bytes (h + 36) == 16)) (Bad 10 (h + 36))
    ∷ fault_if (not ((section_by bytes k).size % 16 == 0)) (Bad 10 (h + 20))
    ∷ fault_if (not (is_kind_at bytes 3 (section_by bytes k).link)) (Bad 10 (h + 24))
    ∷ [])

-- the symbol at a place: st_name, st_value, st_size, st_info, st_shndx
abbrev pub symbol_at : List ℕ → List ℕ → ℕ → Symbol
symbol_at bytes strings s = record {
  name = name_at strings (word_at bytes s);
  value = word_at bytes (s + 4);
  size = word_at bytes (s + 8);
  bind = byte_at bytes (s + 12) / 16;
  kind = byte_at bytes (s + 12) % 16;
  section = half_at bytes (s + 14);
}

-- SHN_UNDEF, SHN_ABS, SHN_COMMON (ELF gABI, "Special Section Indexes")
abbrev pub is_special : ℕ → Bool
is_special index = (index == 0) || (index == 0xFFF1) || (index == 0xFFF2)

-- one of these, or the index of a section
abbrev pub is_section_index : List ℕ → ℕ → Bool
is_section_index bytes index = is_special index || nat_lt index (section_count bytes)

-- the checks of the symbol at a place: a name that isn't empty has an end, and there is its section
unfoldable pub symbol_fault : List ℕ → List ℕ → ℕ → Option ElfFault
symbol_fault bytes strings s = let name = word_at bytes s in first_of (
    fault_if (not (name == 0) && not (has_end strings name)) (Bad 11 s)
    ∷ fault_if (not (is_section_index bytes (half_at bytes (s + 14)))) (Bad 12 (s + 14))
    ∷ [])

-- of each of n symbols from a place on, 16 bytes each, from index 1 on
abbrev pub symbols_fault : List ℕ → List ℕ → ℕ → ℕ → Option ElfFault
symbols_fault bytes strings place n = first_each (λ k. symbol_fault bytes strings (place + 16 * k)) 1 (n - 1)

-- the symbol of index 0, whatever stands there
abbrev pub zero_symbol : Symbol
zero_symbol = record { name = []; value = 0; size = 0; bind = 0; kind = 0; section = 0 }

-- n symbols from a place on
abbrev pub symbol_list : List ℕ → List ℕ → ℕ → ℕ → List Symbol
symbol_list bytes strings place zero = []
symbol_list bytes strings place (suc n) = zero_symbol ∷ entries (λ k. symbol_at bytes strings (place + 16 * k)) 1 n

-- the string table of the symbol table of an index, and how many symbols this has
abbrev pub strings_of : List ℕ → ℕ → List ℕ
strings_of bytes k = bytes_of bytes (section_by bytes (section_by bytes k).link)

abbrev pub symbol_count : List ℕ → ℕ → ℕ
symbol_count bytes k = (section_by bytes k).size / 16

-- the checks of the symbol table and of its symbols, where there is one
abbrev pub symbol_part_fault : List ℕ → List Section → Option ℕ → Option ElfFault
symbol_part_fault bytes sections None = None
symbol_part_fault bytes sections (Some k) = first_of (
    symbol_table_fault bytes sections k
    ∷ symbols_fault bytes (strings_of bytes k) (section_by bytes k).offset (symbol_count bytes k)
    ∷ [])

-- the symbols, where there is a symbol table
abbrev pub symbol_part : List ℕ → Option ℕ → List Symbol
symbol_part bytes None = []
symbol_part bytes (Some k) = symbol_list bytes (strings_of bytes k) (section_by bytes k).offset (symbol_count bytes k)

-- all symbols
abbrev pub symbols_of : List ℕ → List Symbol
symbols_of bytes = symbol_part bytes (symbol_table (sections_of bytes))
