-- Places of code, and what leads to them.
use Rattle.std.specs.Prelude.{ℕ, ℤ, ◌+◌, ◌%◌, ◌≤◌, ◌==◌, ◌&&◌, ◌||◌, nat_le, Bool, IsTrue, Option, Some, None, get_or, if◌then◌else◌}
use Rattle.rt_elf.specs.Parts.{Parts as Object}
use Rattle.rt_elf.specs.Fields.{word_at}
use Rattle.rt_elf.specs.Object.{section_of}
use Rattle.rt_elf.specs.Sections.{is_code_section}
use Rattle.rt_elf.specs.Symbols.{zero_symbol}
use Rattle.rt_link.specs.declared.link.Link.{Link}
use Rattle.rt_link.specs.declared.link.Link.TheVariants as link
use Rattle.rt_link.specs.declared.place.Place.{Place}
use Rattle.rt_link.specs.Effects.{moved}
use Rattle.rt_control.specs.declared.form.Target.{Target}
use Rattle.rt_control.specs.declared.form.Target.TheVariants.{Code, Outside}

-- a good place: its section is executable, its offset is a multiple of 4, and offset + 4 is at most the section's size
abbrev pub is_good : Object → Place → Bool
is_good object place = let section = section_of object place.section in
    is_code_section section && (place.offset % 4 == 0) && nat_le (place.offset + 4) section.size

-- a place, if it is good
abbrev pub good_place : Object → Place → Option Place
good_place object place = if is_good object place then Some place else None

-- the word at a place
abbrev pub word_of : Object → Place → ℕ
word_of object place = word_at object.bytes ((section_of object place.section).offset + place.offset)

-- so many bytes from a place on are of a section of code
pub record HasRoom (object : Object) (place : Place) (size : ℕ) : Type 0 where
  pub is_code : IsTrue (is_code_section (section_of object place.section))
  pub is_within : place.offset + size ≤ (section_of object place.section).size

-- the place so many bytes on
abbrev pub after : Place → ℕ → Place
after place size = record { section = place.section; offset = place.offset + size }

-- the code at a place, if that is good
abbrev pub code_target : Object → Place → Option Target
code_target object place = if is_good object place then Some (Code place) else None

-- Where a symbol with an addend leads: outside if it is undefined, SHN_UNDEF; nowhere if it is absolute, SHN_ABS, or
-- common, SHN_COMMON; else to the code at its value and the addend in its section (ELF gABI, "Symbol Table").
unfoldable pub symbol_target : Object → ℕ → ℤ → Option Target
symbol_target object index addend = let symbol = get_or object.symbols index zero_symbol in
    if symbol.section == 0 then Some (Outside index) else
    if symbol.section == 0xFFF1 || symbol.section == 0xFFF2 then None else
    code_target object (moved symbol.section symbol.value addend)

-- Where a jump at a place leads: where its relocation's symbol does, if it has one, else at its distance (RISC-V
-- psABI, "Relocations", R_RISCV_BRANCH and R_RISCV_JAL).
abbrev pub jump_target : Object → Place → Option Link → ℤ → Option Target
jump_target object place (Some (link.Target symbol addend)) distance = symbol_target object symbol addend
jump_target object place other distance = code_target object (moved place.section place.offset distance)
