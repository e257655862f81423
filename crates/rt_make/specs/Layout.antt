-- Where the parts of a packed object stand: the file header, the code, the relocations, the symbol table, the
-- string table, and the section headers at the next multiple of 4. `words`, `relocs` and `symbols` count the code
-- words, the relocations and the entries of the symbol table; `strings` is the length of the string table.
use Rattle.std.specs.Prelude.{ℕ, ◌+◌, ◌*◌, ◌/◌}
use Rattle.rt_elf.specs.declared.section.Section.{Section}

abbrev pub symbols_place : ℕ → ℕ → ℕ
symbols_place words relocs = 52 + 4 * words + 12 * relocs

abbrev pub strings_place : ℕ → ℕ → ℕ → ℕ
strings_place words relocs symbols = symbols_place words relocs + 16 * symbols

abbrev pub strings_end : ℕ → ℕ → ℕ → ℕ → ℕ
strings_end words relocs symbols strings = strings_place words relocs symbols + strings

abbrev pub headers_place : ℕ → ℕ → ℕ → ℕ → ℕ
headers_place words relocs symbols strings = (strings_end words relocs symbols strings + 3) / 4 * 4

-- The sections after section 0, which is SHT_NULL, with their types and flags (ELF gABI, "Sections").

-- section 1, SHT_PROGBITS with SHF_ALLOC and SHF_EXECINSTR
abbrev pub code_section : ℕ → Section
code_section words = record { kind = 1; flags = 6; offset = 52; size = 4 * words; link = 0; info = 0 }

-- section 2, SHT_SYMTAB: its names are in section 3, and its symbols from index 1 on aren't local
abbrev pub symbol_section : ℕ → ℕ → ℕ → Section
symbol_section words relocs symbols =
    record { kind = 2; flags = 0; offset = symbols_place words relocs; size = 16 * symbols; link = 3; info = 1 }

-- section 3, SHT_STRTAB
abbrev pub string_section : ℕ → ℕ → ℕ → ℕ → Section
string_section words relocs symbols strings =
    record { kind = 3; flags = 0; offset = strings_place words relocs symbols; size = strings; link = 0; info = 0 }

-- section 4, SHT_RELA: its symbols are in section 2, and its places in section 1
abbrev pub reloc_section : ℕ → ℕ → Section
reloc_section words relocs =
    record { kind = 4; flags = 0; offset = 52 + 4 * words; size = 12 * relocs; link = 2; info = 1 }
