-- The checks of the relocations of an object's code, in order: the first that fails has the number and the place. They
-- go over these relocations twice.
use Rattle.std.specs.Prelude.{ℕ, ◌+◌, ◌%◌, ◌==◌, ◌&&◌, nat_le, pos, not, Bool, is_some, is_none, Option, None, Some, Result, Ok, Err}
use Rattle.std.specs.Prelude.{List, [], ◌∷◌, take, length, get_or, ◌≡◌}
use Rattle.rt_base.specs.First.{fault_if, first_of, first_each}
use Rattle.rt_elf.specs.declared.object.Object.{Object}
use Rattle.rt_elf.specs.declared.reloc.Reloc.{Reloc}
use Rattle.rt_elf.specs.Fields.{word_at}
use Rattle.rt_elf.specs.Object.{section_of}
use Rattle.rt_insn.specs.Word.{field}
use Rattle.rt_link.specs.declared.fault.LinkFault.{LinkFault}
use Rattle.rt_link.specs.declared.fault.LinkFault.TheVariants.{Bad, Memory}
use Rattle.rt_link.specs.Kinds.{kind_of, has_effect, is_call, is_pcrel_low}
use Rattle.rt_link.specs.Effects.{code_relocs, place_of, symbol_place, head_at, high_at}

-- one check of a relocation: where it fails, its number and the relocation's place
abbrev pub fault_at : Bool → ℕ → Reloc → Option LinkFault
fault_at fails number reloc = fault_if fails (Bad number reloc.section reloc.offset)

-- so many bytes from the place of a relocation on are words of its section
abbrev pub has_room : Object → Reloc → ℕ → Bool
has_room object reloc size = (reloc.offset % 4 == 0) && nat_le (reloc.offset + size) (section_of object reloc.section).size

-- AUIPC r, and JALR with base r, where r isn't x0 (RISC-V ISA, "RV32I Base Integer Instruction Set")
abbrev pub is_pair : ℕ → ℕ → Bool
is_pair first second =
    (field first 0 7 == 0x17) && (field second 0 7 == 0x67) && (field second 12 3 == 0)
    && (field second 15 5 == field first 7 5) && not (field first 7 5 == 0)

-- such a pair stands at the place of a relocation
abbrev pub has_pair : Object → Reloc → Bool
has_pair object reloc = let at = (section_of object reloc.section).offset + reloc.offset in
    has_room object reloc 8 && is_pair (word_at object.bytes at) (word_at object.bytes (at + 4))

-- The first time, of a relocation after some others: its type is known, and if it has an effect, a word stands at its
-- place, and none of the others has an effect there.
unfoldable pub place_fault : Object → List Reloc → Reloc → Option LinkFault
place_fault object earlier reloc = let kind = kind_of reloc.kind in first_of (
    fault_at (is_none kind) 20 reloc
    ∷ fault_at (has_effect kind && not (has_room object reloc 4)) 21 reloc
    ∷ fault_at (has_effect kind && is_some (head_at earlier (place_of reloc))) 22 reloc
    ∷ [])

-- The second time, of a relocation among all: if it is about a PCREL_HI20, that stands at the place of its symbol, and
-- if it is a call, it is one of a pair.
unfoldable pub partner_fault : Object → List Reloc → Reloc → Option LinkFault
partner_fault object relocs reloc = let kind = kind_of reloc.kind in first_of (
    fault_at (is_pcrel_low kind && not (is_some (high_at relocs (symbol_place object.symbols reloc.symbol)))) 23 reloc
    ∷ fault_at (is_call kind && not (has_pair object reloc)) 24 reloc
    ∷ [])

-- a relocation of all zeros, which stands for one past the end
abbrev pub no_reloc : Reloc
no_reloc = record { section = 0; offset = 0; kind = 0; symbol = 0; addend = pos 0 }

-- the relocation of an index
abbrev pub reloc_by : List Reloc → ℕ → Reloc
reloc_by relocs index = get_or relocs index no_reloc

-- the first time and the second time, of each of some relocations in order
abbrev pub places_fault : Object → List Reloc → Option LinkFault
places_fault object relocs = first_each (λ i. place_fault object (take i relocs) (reloc_by relocs i)) 0 (length relocs)

abbrev pub partners_fault : Object → List Reloc → Option LinkFault
partners_fault object relocs = first_each (λ i. partner_fault object relocs (reloc_by relocs i)) 0 (length relocs)

-- all checks
abbrev pub link_fault : Object → Option LinkFault
link_fault object = let relocs = code_relocs object in first_of (places_fault object relocs ∷ partners_fault object relocs ∷ [])

-- a check answers Ok where there is no fault, else the fault
abbrev pub checked : Option LinkFault → Result (Unit {0}) LinkFault
checked None = Ok tt
checked (Some fault) = Err fault

-- an error is the first fault; memory may always run out
abbrev pub IsFaultOf : Option LinkFault → LinkFault → Type 0
IsFaultOf fault (Bad number section offset) = fault ≡ Some (Bad number section offset)
IsFaultOf fault Memory = Unit {0}
