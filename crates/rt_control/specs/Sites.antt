-- What the site at a place does, from the words there.
use Rattle.std.specs.Prelude.{◌≡◌, ℕ, Option, Some, None, List, Result, Ok, Err}
use Rattle.rt_elf.specs.Parts.{Parts as Object}
use Rattle.rt_insn.specs.Table.{IsCode}
use Rattle.rt_insn.specs.Word.{field}
use Rattle.rt_insn.specs.declared.insn.Insn.{Insn}
use Rattle.rt_link.specs.declared.link.Link.{Link}
use Rattle.rt_link.specs.declared.link.Link.TheVariants.{Pair}
use Rattle.rt_link.specs.declared.place.Place.{Place}
use Rattle.rt_link.specs.declared.pointers.Pointer.{Pointer}
use Rattle.rt_link.specs.Effects.{link_at}
use Rattle.rt_control.specs.declared.form.Form.{Form}
use Rattle.rt_control.specs.declared.fault.SiteFault.{SiteFault}
use Rattle.rt_control.specs.declared.fault.SiteFault.TheVariants as fault
use Rattle.rt_control.specs.declared.fault.FormFault.{FormFault}
use Rattle.rt_control.specs.declared.fault.FormFault.TheVariants.{Site, Memory}
use Rattle.rt_control.specs.declared.outcome.Outcome.{Outcome}
use Rattle.rt_control.specs.Places.{word_of, after, symbol_target}
use Rattle.rt_control.specs.Control.{pair_form, insn_form}
use Rattle.rt_control.specs.Tables.{table_register, MayJumpTo, outcome_of}

-- rd of a word: the register that it writes (RISC-V unprivileged ISA, "Base Instruction Formats")
abbrev pub register_of : ℕ → ℕ
register_of word = field word 7 5

-- what the site at a place does, by what stands there, a far call, whose second word is its JALR, else an instruction,
-- and by what a jump through a register comes to
abbrev pub form_of : Object → Place → Option Link → Option Insn → Outcome → Result Form SiteFault
form_of object place (Some (Pair symbol addend)) insn outcome =
    pair_form object place (register_of (word_of object (after place 4))) (symbol_target object symbol addend)
form_of object place link None outcome = Err fault.Instruction
form_of object place link (Some insn) outcome = insn_form object place link insn outcome

-- the instruction that a word stands for, or none
abbrev pub IsInsnOf : ℕ → Option Insn → Type 0
IsInsnOf word None = (insn : Insn) → ¬ IsCode word insn
IsInsnOf word (Some insn) = IsCode word insn

-- the site at a good place of an object does this, or has this fault
pub record IsAt (object : Object) (place : Place) (result : Result Form SiteFault) : Type 0 where
  pub insn : Option Insn
  pub stands : IsInsnOf (word_of object place) insn
  pub entries : List Pointer
  pub jumps : MayJumpTo object place (table_register insn) entries
  pub does : result ≡ form_of object place (link_at object place) insn (outcome_of object entries)

-- an error is the fault of the site at a place; memory may always run out
abbrev pub IsFormFault : Object → Place → FormFault → Type 0
IsFormFault object place (Site fault) = IsAt object place (Err fault)
IsFormFault object place Memory = Unit {0}

-- where memory doesn't run out, the answer is what the site does, or its fault
abbrev pub IsAnswer : Result Form FormFault → Result Form SiteFault → Type 0
IsAnswer (Ok form) does = does ≡ Ok form
IsAnswer (Err (Site fault)) does = does ≡ Err fault
IsAnswer (Err Memory) does = Unit {0}
