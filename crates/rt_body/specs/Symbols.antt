-- Symbols that stand at one place.
use Rattle.std.specs.Prelude.{ℕ, ◌==◌, ◌&&◌, not, Bool, if◌then◌else◌, get_or}
use Rattle.std.specs.List.{position_or_len}
use Rattle.rt_elf.specs.Parts.{Parts as Object}
use Rattle.rt_elf.specs.declared.symbol.Symbol.{Symbol}
use Rattle.rt_elf.specs.Object.{section_of}
use Rattle.rt_elf.specs.Sections.{is_code_section}
use Rattle.rt_elf.specs.Symbols.{zero_symbol}
use Rattle.rt_proc.specs.Entries.{has_no_section}

-- the symbol of an index
abbrev pub symbol_of : Object → ℕ → Symbol
symbol_of object index = get_or object.symbols index zero_symbol

-- two symbols have one section and one value
abbrev pub stands_with : Symbol → Symbol → Bool
stands_with s t = (t.section == s.section) && (t.value == s.value)

-- the lowest symbol at the place of a symbol, which is that symbol itself where it is of no section
abbrev pub lowest : Object → ℕ → ℕ
lowest object index =
    let symbol = symbol_of object index in
    if has_no_section symbol then index else position_or_len (stands_with symbol) object.symbols

-- a symbol lies in an executable section: an undefined, absolute or common one lies in none, whatever section has that index
abbrev pub is_code_symbol : Object → ℕ → Bool
is_code_symbol object index = let symbol = symbol_of object index in
    not (has_no_section symbol) && is_code_section (section_of object symbol.section)
