-- What stands at a place, and what it means.
use Rattle.std.specs.Prelude.{ℕ, ℤ, ◌+◌, ◌%◌, ◌^◌, ◌==◌, ◌&&◌, Bool, Option, Some, None, List, filter, find, get_or}
use Rattle.std.specs.Int.{w32, cast_unsigned}
use Rattle.std.specs.Option.{option_map, option_and_then}
use Rattle.rt_elf.specs.declared.object.Object.{Object}
use Rattle.rt_elf.specs.declared.reloc.Reloc.{Reloc}
use Rattle.rt_elf.specs.declared.symbol.Symbol.{Symbol}
use Rattle.rt_elf.specs.Object.{section_of}
use Rattle.rt_elf.specs.Sections.{is_code_section}
use Rattle.rt_elf.specs.Symbols.{zero_symbol}
use Rattle.rt_link.specs.declared.kind.Kind.{Kind}
use Rattle.rt_link.specs.declared.kind.Kind.TheVariants.{Passed, Jump, Call, PcrelHigh, High, Low, PcrelLow}
use Rattle.rt_link.specs.declared.link.Link.{Link}
use Rattle.rt_link.specs.declared.link.Link.TheVariants as link
use Rattle.rt_link.specs.declared.place.Place.{Place}
use Rattle.rt_link.specs.Kinds.{kind_of, has_effect, is_pcrel_high}

-- the relocations of sections of code, in the order of the file
abbrev pub is_of_code : Object → Reloc → Bool
is_of_code object reloc = is_code_section (section_of object reloc.section)

abbrev pub code_relocs : Object → List Reloc
code_relocs object = filter (is_of_code object) object.relocs

-- the place of a relocation
abbrev pub place_of : Reloc → Place
place_of reloc = record { section = reloc.section; offset = reloc.offset }

-- the place of a symbol: its section and its value
abbrev pub symbol_place : List Symbol → ℕ → Place
symbol_place symbols index = let symbol = get_or symbols index zero_symbol in
    record { section = symbol.section; offset = symbol.value }

-- the place at a distance from an offset of a section, modulo 2^32
abbrev pub moved : ℕ → ℕ → ℤ → Place
moved section offset distance = record { section = section; offset = (offset + cast_unsigned w32 distance) % 2 ^ 32 }

-- two places are one
abbrev pub is_place : Place → Place → Bool
is_place p q = (p.section == q.section) && (p.offset == q.offset)

-- a relocation with an effect stands at a place
abbrev pub is_head : Place → Reloc → Bool
is_head place reloc = has_effect (kind_of reloc.kind) && is_place (place_of reloc) place

-- the first relocation with an effect at a place
abbrev pub head_at : List Reloc → Place → Option Reloc
head_at relocs place = find (is_head place) relocs

-- a PCREL_HI20 stands at a place
abbrev pub is_high : Place → Reloc → Bool
is_high place reloc = is_pcrel_high (kind_of reloc.kind) && is_place (place_of reloc) place

-- the PCREL_HI20 at a place
abbrev pub high_at : List Reloc → Place → Option Reloc
high_at relocs place = find (is_high place) relocs

-- what a PCREL_HI20 means for the low bits
abbrev pub low_of : Reloc → Link
low_of high = link.Low high.symbol high.addend

-- what a relocation of a type means; where the low bits are those of a PCREL_HI20, its symbol and addend count
abbrev pub meaning : List Symbol → List Reloc → Option Kind → Reloc → Option Link
meaning symbols relocs None reloc = None
meaning symbols relocs (Some Passed) reloc = None
meaning symbols relocs (Some Jump) reloc = Some (link.Target reloc.symbol reloc.addend)
meaning symbols relocs (Some Call) reloc = Some (link.Pair reloc.symbol reloc.addend)
meaning symbols relocs (Some PcrelHigh) reloc = Some (link.High reloc.symbol reloc.addend)
meaning symbols relocs (Some High) reloc = Some (link.High reloc.symbol reloc.addend)
meaning symbols relocs (Some Low) reloc = Some (link.Low reloc.symbol reloc.addend)
meaning symbols relocs (Some PcrelLow) reloc = option_map low_of (high_at relocs (symbol_place symbols reloc.symbol))

-- what the first of some relocations with an effect at a place means
abbrev pub link_of : List Symbol → List Reloc → Place → Option Link
link_of symbols relocs place =
    option_and_then (λ reloc. meaning symbols relocs (kind_of reloc.kind) reloc) (head_at relocs place)

-- what the first relocation of code with an effect at a place means
abbrev pub link_at : Object → Place → Option Link
link_at object place = link_of object.symbols (code_relocs object) place
