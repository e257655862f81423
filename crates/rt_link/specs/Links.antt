-- What links hold: by place, the first relocation with an effect and the place of its symbol, and the first pointer;
-- and the places that are named.
use Rattle.std.specs.Prelude.{◌≡◌, ◌↔◌, ℕ, Bool, false, IsTrue, is_some, Option, Some, None, List, length, ◌<◌, if◌then◌else◌}
use Rattle.std.specs.BTreeMap.{get}
use Rattle.std.specs.BTreeSet.{contains}
use Rattle.std.specs.declared.cmp.Ordering.{Ordering}
use Rattle.std.specs.Ordering.{nat_cmp, ordering_then}
use Rattle.std.specs.Option.{option_map, option_and_then}
use Rattle.rt_elf.specs.declared.object.Object.{Object}
use Rattle.rt_elf.specs.declared.reloc.Reloc.{Reloc}
use Rattle.rt_elf.specs.declared.symbol.Symbol.{Symbol}
use Rattle.rt_link.specs.declared.kind.Kind.{Kind}
use Rattle.rt_link.specs.declared.kind.Kind.TheVariants.{Passed, Jump, Call, PcrelHigh, High, Low, PcrelLow}
use Rattle.rt_link.specs.declared.link.Link.{Link}
use Rattle.rt_link.specs.declared.link.Link.TheVariants as link
use Rattle.rt_link.specs.declared.place.Place.{Place}
use Rattle.rt_link.specs.declared.heads.Head.{Head}
use Rattle.rt_link.specs.declared.heads.Heads.{Heads}
use Rattle.rt_link.specs.declared.links.Links.{Links}
use Rattle.rt_link.specs.declared.pointers.Pointer.{Pointer}
use Rattle.rt_link.specs.declared.pointers.Pointers.{Pointers}
use Rattle.rt_link.specs.Kinds.{kind_of, is_pcrel_high}
use Rattle.rt_link.specs.Effects.{is_of_code, code_relocs, place_of, symbol_place, moved, is_place, head_at, high_at, low_of, link_at}
use Rattle.rt_link.specs.Pointers.{pointer_at, IsNamed}

-- the order of places, as the maps have it: by sections, and in these by offsets
abbrev pub place_cmp : Place → Place → Ordering
place_cmp p q = ordering_then (nat_cmp p.section q.section) (nat_cmp p.offset q.offset)

-- a relocation with the place of its symbol
abbrev pub head_of : List Symbol → Reloc → Head
head_of symbols reloc = record { reloc = reloc; own = symbol_place symbols reloc.symbol }

-- what is held for a place
abbrev pub head_in : Heads → Place → Option Head
head_in heads place = get place_cmp heads.entries place

-- they are the heads of relocations about symbols
abbrev pub AreHeads : List Symbol → List Reloc → Heads → Type 0
AreHeads symbols relocs heads = (place : Place) → head_in heads place ≡ option_map (head_of symbols) (head_at relocs place)

-- a relocation is of a section of code, and about a symbol of the object
abbrev pub IsOfCode : Object → Reloc → Type 0
IsOfCode object reloc = IsTrue (is_of_code object reloc) × (reloc.symbol < length object.symbols)

-- a relocation, if it is a PCREL_HI20
abbrev pub high_of : Option Reloc → Option Reloc
high_of head = option_and_then (λ reloc. if is_pcrel_high (kind_of reloc.kind) then Some reloc else None) head

-- they are all of them, and each PCREL_HI20 is among them
pub record HoldAll (symbols : List Symbol) (relocs : List Reloc) (heads : Heads) : Type 0 where
  pub are_heads : AreHeads symbols relocs heads
  pub highs : (place : Place) → high_at relocs place ≡ high_of (head_at relocs place)

-- what a held PCREL_HI20 means for the low bits
abbrev pub low_of_head : Head → Option Link
low_of_head high = if is_pcrel_high (kind_of high.reloc.kind) then Some (low_of high.reloc) else None

-- what the low bits are where a PCREL_HI20 is held for a place
abbrev pub low_in : Heads → Place → Option Link
low_in heads place = option_and_then low_of_head (head_in heads place)

-- what a held relocation of a type means
abbrev pub meaning_in : Heads → Option Kind → Head → Option Link
meaning_in heads None head = None
meaning_in heads (Some Passed) head = None
meaning_in heads (Some Jump) head = Some (link.Target head.reloc.symbol head.reloc.addend)
meaning_in heads (Some Call) head = Some (link.Pair head.reloc.symbol head.reloc.addend)
meaning_in heads (Some PcrelHigh) head = Some (link.High head.reloc.symbol head.reloc.addend)
meaning_in heads (Some High) head = Some (link.High head.reloc.symbol head.reloc.addend)
meaning_in heads (Some Low) head = Some (link.Low head.reloc.symbol head.reloc.addend)
meaning_in heads (Some PcrelLow) head = low_in heads head.own

-- what is held for a place means
unfoldable pub link_held : Heads → Place → Option Link
link_held heads place = option_and_then (λ head. meaning_in heads (kind_of head.reloc.kind) head) (head_in heads place)

-- what links answer for a section and an offset
abbrev pub link_in : Links → ℕ → ℕ → Option Link
link_in links section offset = link_held links.heads (record { section = section; offset = offset })

-- a relocation as a pointer
abbrev pub pointer_of : Reloc → Pointer
pointer_of reloc = record { symbol = reloc.symbol; addend = reloc.addend }

-- the pointer that is held for a place
abbrev pub pointer_held : Pointers → Place → Option Pointer
pointer_held pointers place = get place_cmp pointers.entries place

abbrev pub pointer_in : Links → ℕ → ℕ → Option Pointer
pointer_in links section offset = pointer_held links.pointers (record { section = section; offset = offset })

-- the place that a link names, if that is the low bits of its address
abbrev pub named_by : List Symbol → Option Link → Option Place
named_by symbols (Some (link.Low symbol addend)) =
    let own = symbol_place symbols symbol in Some (moved own.section own.offset addend)
named_by symbols other = None

abbrev pub is_at : Option Place → Place → Bool
is_at None place = false
is_at (Some p) place = is_place p place

-- a relocation names a place by what is held for its own
abbrev pub names : List Symbol → Heads → Place → Reloc → Bool
names symbols heads place reloc = is_at (named_by symbols (link_held heads (place_of reloc))) place

abbrev pub is_named_in : Links → ℕ → ℕ → Bool
is_named_in links section offset = contains place_cmp links.named (record { section = section; offset = offset })

-- The links are those of an object: at each place they answer what stands there, and that is something wherever a
-- relocation of code with an effect stands; its pointers are those of code and data, and the places that are named are
-- those that the low bits of an address name.
pub record AreLinksOf (object : Object) (links : Links) : Type 0 where
  pub same : (section offset : ℕ) → link_in links section offset ≡ link_at object (record { section = section; offset = offset })
  pub complete : (section offset : ℕ)
      → is_some (link_in links section offset) ≡ is_some (head_at (code_relocs object) (record { section = section; offset = offset }))
  pub pointers : (section offset : ℕ)
      → pointer_in links section offset ≡ option_map pointer_of (pointer_at object (record { section = section; offset = offset }))
  pub named : (section offset : ℕ)
      → IsTrue (is_named_in links section offset) ↔ IsNamed object (record { section = section; offset = offset })
