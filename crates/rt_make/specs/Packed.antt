-- The bytes of an object for code words, symbols and relocations (ELF gABI, "Object Files").
use Rattle.std.specs.Prelude.{ℕ, ◌+◌, ◌-◌, ◌*◌, ◌^◌, ◌<◌, List, [], ◌∷◌, ◌++◌, length, replicate}
use Rattle.std.specs.Int.{w32, cast_unsigned}
use Rattle.std.specs.List.{flat_map}
use Rattle.byteorder.specs.Endian.{little_bytes}
use Rattle.rt_elf.specs.declared.section.Section.{Section}
use Rattle.rt_elf.specs.declared.symbol.Symbol.{Symbol}
use Rattle.rt_elf.specs.declared.reloc.Reloc.{Reloc}
use Rattle.rt_elf.specs.Object.{null_section}
use Rattle.rt_elf.specs.Symbols.{zero_symbol}
use Rattle.rt_make.specs.Layout.{strings_end, headers_place, code_section, symbol_section, string_section, reloc_section}

unfoldable pub half_bytes : ℕ → List ℕ
half_bytes n = little_bytes 2 n

unfoldable pub word_bytes : ℕ → List ℕ
word_bytes n = little_bytes 4 n

-- the bytes of half words, and of words, one after the other
abbrev pub halves : List ℕ → List ℕ
halves ns = flat_map half_bytes ns

abbrev pub words : List ℕ → List ℕ
words ns = flat_map word_bytes ns

-- The file header ("ELF Header"), where the section headers stand at a place. e_ident: 7F 45 4C 46, class 1 (32
-- bits), data 1 (little endian), version 1.
unfoldable pub file_header : ℕ → List ℕ
file_header place =
    words (0x464C457F ∷ 0x00010101 ∷ 0 ∷ 0 ∷ [])
    -- e_type 1 (relocatable), e_machine 243 (RISC-V)
    ++ halves (1 ∷ 243 ∷ [])
    -- e_version, e_entry, e_phoff, e_shoff, e_flags
    ++ words (1 ∷ 0 ∷ 0 ∷ place ∷ 0 ∷ [])
    -- e_ehsize, e_phentsize, e_phnum, e_shentsize, e_shnum, e_shstrndx
    ++ halves (52 ∷ 0 ∷ 0 ∷ 40 ∷ 5 ∷ 3 ∷ [])

-- a relocation with an addend ("Relocation"): r_offset, r_info, r_addend
unfoldable pub reloc_entry : Reloc → List ℕ
reloc_entry reloc =
    words (reloc.offset ∷ (256 * reloc.symbol + reloc.kind) ∷ cast_unsigned w32 reloc.addend ∷ [])

-- a symbol ("Symbol Table"), whose name stands at a place of the string table: st_name, st_value, st_size, and
-- st_info, st_other, st_shndx
unfoldable pub symbol_entry : ℕ → Symbol → List ℕ
symbol_entry name_place symbol =
    words (name_place ∷ symbol.value ∷ symbol.size ∷ [])
    ++ (16 * symbol.bind + symbol.kind) ∷ 0 ∷ []
    ++ half_bytes symbol.section

-- what a name adds to the string table: its bytes and a zero byte, and nothing where it is empty
abbrev pub name_string : List ℕ → List ℕ
name_string [] = []
name_string (b ∷ bs) = (b ∷ bs) ++ 0 ∷ []

-- where a name stands, if the string table ends at a place so far; the empty name is 0
abbrev pub name_place : ℕ → List ℕ → ℕ
name_place at [] = 0
name_place at (b ∷ bs) = at

-- the entries of symbols whose names stand in the string table from a place on
abbrev pub symbol_entries : ℕ → List Symbol → List ℕ
symbol_entries at [] = []
symbol_entries at (symbol ∷ rest) =
    symbol_entry (name_place at symbol.name) symbol ++ symbol_entries (at + length (name_string symbol.name)) rest

-- the string table ("String Table"): a zero byte, and the names in order
abbrev pub string_table : List Symbol → List ℕ
string_table symbols = 0 ∷ flat_map (λ symbol. name_string symbol.name) symbols

-- a section header ("Sections"): sh_name, sh_type, sh_flags, sh_addr, sh_offset, sh_size, sh_link, sh_info,
-- sh_addralign, sh_entsize
unfoldable pub section_header : Section → ℕ → ℕ → List ℕ
section_header section align entry =
    words (0 ∷ section.kind ∷ section.flags ∷ 0 ∷ section.offset ∷ section.size ∷
    section.link ∷ section.info ∷ align ∷ entry ∷ [])

unfoldable pub section_headers : ℕ → ℕ → ℕ → ℕ → List ℕ
section_headers words relocs symbols strings =
    section_header null_section 0 0
    ++ section_header (code_section words) 4 0
    ++ section_header (symbol_section words relocs symbols) 4 16
    ++ section_header (string_section words relocs symbols strings) 1 0
    ++ section_header (reloc_section words relocs) 4 12

-- the parts before the string table's end, where the section headers stand at a place
unfoldable pub packed_parts : List ℕ → List Symbol → List Reloc → ℕ → List ℕ
packed_parts code symbols relocs headers =
    file_header headers
    ++ words code
    ++ flat_map reloc_entry relocs
    ++ symbol_entries 1 (zero_symbol ∷ symbols)
    ++ string_table symbols

-- the whole object: the given symbols stand after the zero symbol
unfoldable pub packed : List ℕ → List Symbol → List Reloc → List ℕ
packed code symbols relocs =
    let count = 1 + length symbols in
    let strings = length (string_table symbols) in
    let headers = headers_place (length code) (length relocs) count strings in
    packed_parts code symbols relocs headers
    ++ replicate (headers - strings_end (length code) (length relocs) count strings) 0
    ++ section_headers (length code) (length relocs) count strings

-- how long it is: the section headers stand last, five of 40 bytes
abbrev pub object_length : List ℕ → List Symbol → List Reloc → ℕ
object_length code symbols relocs =
    headers_place (length code) (length relocs) (1 + length symbols) (length (string_table symbols)) + 200

-- what is asked of a symbol and of a relocation, whose fields share bytes with others
abbrev pub FitsSymbol : Symbol → Type 0
FitsSymbol symbol = (symbol.bind < 16) × (symbol.kind < 16)

abbrev pub FitsReloc : Reloc → Type 0
FitsReloc reloc = reloc.symbol < 2 ^ 24
