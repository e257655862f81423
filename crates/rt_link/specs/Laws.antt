-- What links say of the object that they are of.
use Rattle.std.specs.Prelude.{◌≡◌, ◌≢◌, ◌↔◌, ℕ, ℤ, ◌+◌, ◌%◌, ◌<◌, ◌≤◌, ◌^◌, IsTrue, Option, Some, None, IfSome, length}
use Rattle.rt_elf.specs.declared.object.Object.{Object}
use Rattle.rt_elf.specs.Fields.{word_at}
use Rattle.rt_elf.specs.Object.{section_of, HasWord, IsLinkable}
use Rattle.rt_elf.specs.Sections.{is_code_section}
use Rattle.rt_insn.specs.Table.{IsCode}
use Rattle.rt_insn.specs.declared.insn.Insn.TheVariants.{Auipc, Jalr}
use Rattle.rt_link.specs.declared.link.Link.{Link}
use Rattle.rt_link.specs.declared.link.Link.TheVariants.{Target, Pair, High, Low}
use Rattle.rt_link.specs.declared.place.Place.{Place}
use Rattle.rt_link.specs.Checks.{is_pair, link_fault}
use Rattle.rt_link.specs.Effects.{link_at}
use Rattle.rt_link.specs.Pointers.{pointer_at}

-- AUIPC r, and JALR with base r, where r isn't x0
pub record ArePair (first second : ℕ) : Type 0 where
  pub register : ℕ
  pub high : ℤ
  pub link : ℕ
  pub low : ℤ
  pub is_auipc : IsCode first (Auipc register high)
  pub is_jalr : IsCode second (Jalr link register low)
  pub is_not_zero : register ≢ 0

abbrev pub IsLawOfPairs : Type 0
IsLawOfPairs = (first second : ℕ) → first < 2 ^ 32 → second < 2 ^ 32 → IsTrue (is_pair first second) ↔ ArePair first second

-- the two words from a place on are of a section of code, and those of a far call
pub record IsFarCall (object : Object) (place : Place) : Type 0 where
  pub is_code : IsTrue (is_code_section (section_of object place.section))
  pub is_aligned : place.offset % 4 ≡ 0
  pub is_within : place.offset + 8 ≤ (section_of object place.section).size
  pub are_words : let at = (section_of object place.section).offset + place.offset in IsTrue
      (is_pair (word_at object.bytes at) (word_at object.bytes (at + 4)))

-- where no check fails, a link of a far call stands at one
abbrev pub IsLawOfFarCalls : Type 0
IsLawOfFarCalls =
    (object : Object) (place : Place) (symbol : ℕ) (addend : ℤ) → IsLinkable object → link_fault object ≡ None
    → link_at object place ≡ Some (Pair symbol addend) → IsFarCall object place

-- the symbol that a link is about
abbrev pub symbol_of : Link → ℕ
symbol_of (Target symbol addend) = symbol
symbol_of (Pair symbol addend) = symbol
symbol_of (High symbol addend) = symbol
symbol_of (Low symbol addend) = symbol

-- a link is about a symbol of the object
abbrev pub IsAboutSymbol : Object → Option Link → Type 0
IsAboutSymbol object link = IfSome link (λ l. symbol_of l < length object.symbols)

abbrev pub IsLawOfSymbols : Type 0
IsLawOfSymbols = (object : Object) (place : Place) → IsLinkable object → IsAboutSymbol object (link_at object place)

-- where no check fails, a link stands at a word of a section of code
abbrev pub IsLawOfPlaces : Type 0
IsLawOfPlaces =
    (object : Object) (place : Place) → IsLinkable object → link_fault object ≡ None
    → IfSome (link_at object place) (λ l. HasWord object place.section place.offset)

-- a pointer is about a symbol of the object
abbrev pub IsLawOfPointers : Type 0
IsLawOfPointers =
    (object : Object) (place : Place) → IsLinkable object
    → IfSome (pointer_at object place) (λ reloc. reloc.symbol < length object.symbols)
