-- Pointers in code and data, and the places that the low bits of an address name.
use Rattle.std.specs.Prelude.{◌≡◌, ℕ, ℤ, ◌==◌, ◌&&◌, ◌||◌, Bool, Option, Some, find}
use Rattle.rt_elf.specs.declared.object.Object.{Object}
use Rattle.rt_elf.specs.declared.reloc.Reloc.{Reloc}
use Rattle.rt_elf.specs.Object.{section_of}
use Rattle.rt_elf.specs.Sections.{is_code_section, is_data_section}
use Rattle.rt_link.specs.declared.link.Link.TheVariants as link
use Rattle.rt_link.specs.declared.place.Place.{Place}
use Rattle.rt_link.specs.RelocationTypes.{R_RISCV_32}
use Rattle.rt_link.specs.Effects.{place_of, symbol_place, moved, is_place, link_at}

-- R_RISCV_32 (RISC-V psABI, "Relocations"), of a section of code or of data
abbrev pub is_address : Object → Reloc → Bool
is_address object reloc = let section = section_of object reloc.section in
    (reloc.kind == R_RISCV_32) && (is_code_section section || is_data_section section)

-- the same, at a place
abbrev pub is_pointer : Object → Place → Reloc → Bool
is_pointer object place reloc = is_address object reloc && is_place (place_of reloc) place

-- the pointer at a place: the first that stands there
abbrev pub pointer_at : Object → Place → Option Reloc
pointer_at object place = find (is_pointer object place) object.relocs

-- the low bits at some place of code are those of this one's address
pub record IsNamed (object : Object) (place : Place) : Type 0 where
  pub from : Place
  pub symbol : ℕ
  pub addend : ℤ
  pub is_low : link_at object from ≡ Some (link.Low symbol addend)
  pub there : let own = symbol_place object.symbols symbol in moved own.section own.offset addend ≡ place
