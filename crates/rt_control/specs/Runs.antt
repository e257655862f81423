-- The run of a jump: the words directly before it that go on to the next.
use Rattle.std.specs.Prelude.{◌≡◌, ℕ, suc, ◌+◌, ◌-◌, ◌<◌, ◌==◌, ◌&&◌, nat_le, not, Bool, true, false, Option, Some, None, List, [], ◌∷◌}
use Rattle.std.specs.Prelude.{if◌then◌else◌}
use Rattle.rt_elf.specs.Parts.{Parts as Object}
use Rattle.rt_insn.specs.declared.insn.Insn.{Insn}
use Rattle.rt_insn.specs.declared.insn.Insn.TheVariants.{Lui, Auipc, Jal, Jalr, Beq, Bne, Blt, Bge, Bltu, Bgeu, Lb, Lh, Lw, Lbu, Lhu}
use Rattle.rt_insn.specs.declared.insn.Insn.TheVariants.{Addi, Slti, Sltiu, Xori, Ori, Andi, Slli, Srli, Srai, Add, Sub, Sll, Slt, Sltu}
use Rattle.rt_insn.specs.declared.insn.Insn.TheVariants.{Xor, Srl, Sra, Or, And, Mul, Mulh, Mulhsu, Mulhu, Div, Divu, Rem, Remu, Ebreak}
use Rattle.rt_insn.specs.Table.{IsCode}
use Rattle.rt_link.specs.declared.link.Link.{Link}
use Rattle.rt_link.specs.declared.link.Link.TheVariants as link
use Rattle.rt_link.specs.declared.place.Place.{Place}
use Rattle.rt_link.specs.Effects.{link_at}
use Rattle.rt_control.specs.declared.run.Step.{Step}
use Rattle.rt_control.specs.Places.{word_of}

-- rd, where an instruction that goes on to its continuation alone has it (RISC-V unprivileged ISA, "Base Instruction
-- Formats")
abbrev pub rd_of : Insn → Option ℕ
rd_of (Lui rd imm) = Some rd
rd_of (Auipc rd imm) = Some rd
rd_of (Lb rd rs1 imm) = Some rd
rd_of (Lh rd rs1 imm) = Some rd
rd_of (Lw rd rs1 imm) = Some rd
rd_of (Lbu rd rs1 imm) = Some rd
rd_of (Lhu rd rs1 imm) = Some rd
rd_of (Addi rd rs1 imm) = Some rd
rd_of (Slti rd rs1 imm) = Some rd
rd_of (Sltiu rd rs1 imm) = Some rd
rd_of (Xori rd rs1 imm) = Some rd
rd_of (Ori rd rs1 imm) = Some rd
rd_of (Andi rd rs1 imm) = Some rd
rd_of (Slli rd rs1 amount) = Some rd
rd_of (Srli rd rs1 amount) = Some rd
rd_of (Srai rd rs1 amount) = Some rd
rd_of (Add rd rs1 rs2) = Some rd
rd_of (Sub rd rs1 rs2) = Some rd
rd_of (Sll rd rs1 rs2) = Some rd
rd_of (Slt rd rs1 rs2) = Some rd
rd_of (Sltu rd rs1 rs2) = Some rd
rd_of (Xor rd rs1 rs2) = Some rd
rd_of (Srl rd rs1 rs2) = Some rd
rd_of (Sra rd rs1 rs2) = Some rd
rd_of (Or rd rs1 rs2) = Some rd
rd_of (And rd rs1 rs2) = Some rd
rd_of (Mul rd rs1 rs2) = Some rd
rd_of (Mulh rd rs1 rs2) = Some rd
rd_of (Mulhsu rd rs1 rs2) = Some rd
rd_of (Mulhu rd rs1 rs2) = Some rd
rd_of (Div rd rs1 rs2) = Some rd
rd_of (Divu rd rs1 rs2) = Some rd
rd_of (Rem rd rs1 rs2) = Some rd
rd_of (Remu rd rs1 rs2) = Some rd
rd_of other = None

-- the instruction goes on to its continuation alone
abbrev pub is_straight : Insn → Bool
is_straight (Jal rd distance) = false
is_straight (Jalr rd rs1 distance) = false
is_straight (Beq rs1 rs2 distance) = false
is_straight (Bne rs1 rs2 distance) = false
is_straight (Blt rs1 rs2 distance) = false
is_straight (Bge rs1 rs2 distance) = false
is_straight (Bltu rs1 rs2 distance) = false
is_straight (Bgeu rs1 rs2 distance) = false
is_straight Ebreak = false
is_straight other = true

-- the relocation is that of a far call
abbrev pub is_far : Option Link → Bool
is_far (Some (link.Pair symbol addend)) = true
is_far other = false

-- the place of an offset of a section
abbrev pub at : ℕ → ℕ → Place
at section offset = record { section = section; offset = offset }

-- the word at an offset of a section is the second of a far call
abbrev pub is_second : Object → ℕ → ℕ → Bool
is_second object section offset = nat_le 4 offset && is_far (link_at object (at section (offset - 4)))

-- an instruction at an offset of a section goes on to its continuation alone, and its word is no part of a far call
abbrev pub is_step : Object → ℕ → ℕ → Insn → Option Link → Bool
is_step object section offset insn link = is_straight insn && not (is_far link) && not (is_second object section offset)

-- the word at an offset of a section of code stands for such an instruction
pub record IsStep (object : Object) (section offset : ℕ) (step : Step) : Type 0 where
  pub stands : IsCode (word_of object (at section offset)) step.insn
  pub link_is : step.link ≡ link_at object (at section offset)
  pub is_step : is_step object section offset step.insn step.link ≡ true

-- the steps directly before an offset of a section, so many at most, the nearest first: they end at the section's
-- begin, or after a word that is no step
pub data AreBefore (object : Object) (section : ℕ) : ℕ → ℕ → List Step → Type 0 where
  full : {offset : ℕ} → AreBefore object section offset 0 []
  begins : {offset room : ℕ} → offset < 4 → AreBefore object section offset room []
  breaks : {before offset room : ℕ} → before + 4 ≡ offset → ((step : Step) → IsStep object section before step → ⊥) →
      AreBefore object section offset room []
  goes_back : {before offset room : ℕ} {step : Step} {steps : List Step} → before + 4 ≡ offset → IsStep object section before step
      → AreBefore object section before room steps → AreBefore object section offset (suc room) (step ∷ steps)

-- the run of a jump: at most 64 steps
abbrev pub IsRun : Object → Place → List Step → Type 0
IsRun object jump steps = AreBefore object jump.section jump.offset 64 steps

abbrev pub is_rd : ℕ → Option ℕ → Bool
is_rd register None = false
is_rd register (Some rd) = rd == register

-- the last of the steps that writes a register, and those before it
abbrev pub writer_of : ℕ → List Step → Option (Step × List Step)
writer_of register [] = None
writer_of register (step ∷ before) = if is_rd register (rd_of step.insn) then Some (step, before) else writer_of register before
