-- The registers that instructions read.
use Rattle.std.specs.Prelude.{ℕ, List, [], ◌∷◌}
use Rattle.rt_insn.specs.declared.insn.Insn.{Insn}
use Rattle.rt_insn.specs.declared.insn.Insn.TheVariants.{Lui, Auipc, Jal, Jalr, Beq, Bne, Blt, Bge, Bltu, Bgeu, Lb, Lh, Lw, Lbu, Lhu}
use Rattle.rt_insn.specs.declared.insn.Insn.TheVariants.{Sb, Sh, Sw, Addi, Slti, Sltiu, Xori, Ori, Andi, Slli, Srli, Srai, Add, Sub}
use Rattle.rt_insn.specs.declared.insn.Insn.TheVariants.{Sll, Slt, Sltu, Xor, Srl, Sra, Or, And, Mul, Mulh, Mulhsu, Mulhu, Div, Divu}
use Rattle.rt_insn.specs.declared.insn.Insn.TheVariants.{Rem, Remu, Fence, Ecall, Ebreak}
use Rattle.rt_proc.specs.declared.site.Callee.{Callee}
use Rattle.rt_proc.specs.declared.site.Callee.TheVariants as callee
use Rattle.rt_proc.specs.declared.site.Kind.{Kind}
use Rattle.rt_proc.specs.declared.site.Kind.TheVariants as kind

-- the operands rs1 and rs2 of an instruction, where its format has them (RISC-V unprivileged ISA, "Base Instruction
-- Formats"); those of FENCE
-- are reserved; an instruction that writes x0 reads its operands as any other
abbrev pub operands_of : Insn → List ℕ
operands_of (Lui rd imm) = []
operands_of (Auipc rd imm) = []
operands_of (Jal rd imm) = []
operands_of (Jalr rd rs1 imm) = rs1 ∷ []
operands_of (Beq rs1 rs2 imm) = rs1 ∷ rs2 ∷ []
operands_of (Bne rs1 rs2 imm) = rs1 ∷ rs2 ∷ []
operands_of (Blt rs1 rs2 imm) = rs1 ∷ rs2 ∷ []
operands_of (Bge rs1 rs2 imm) = rs1 ∷ rs2 ∷ []
operands_of (Bltu rs1 rs2 imm) = rs1 ∷ rs2 ∷ []
operands_of (Bgeu rs1 rs2 imm) = rs1 ∷ rs2 ∷ []
operands_of (Lb rd rs1 imm) = rs1 ∷ []
operands_of (Lh rd rs1 imm) = rs1 ∷ []
operands_of (Lw rd rs1 imm) = rs1 ∷ []
operands_of (Lbu rd rs1 imm) = rs1 ∷ []
operands_of (Lhu rd rs1 imm) = rs1 ∷ []
operands_of (Sb rs1 rs2 imm) = rs1 ∷ rs2 ∷ []
operands_of (Sh rs1 rs2 imm) = rs1 ∷ rs2 ∷ []
operands_of (Sw rs1 rs2 imm) = rs1 ∷ rs2 ∷ []
operands_of (Addi rd rs1 imm) = rs1 ∷ []
operands_of (Slti rd rs1 imm) = rs1 ∷ []
operands_of (Sltiu rd rs1 imm) = rs1 ∷ []
operands_of (Xori rd rs1 imm) = rs1 ∷ []
operands_of (Ori rd rs1 imm) = rs1 ∷ []
operands_of (Andi rd rs1 imm) = rs1 ∷ []
operands_of (Slli rd rs1 amount) = rs1 ∷ []
operands_of (Srli rd rs1 amount) = rs1 ∷ []
operands_of (Srai rd rs1 amount) = rs1 ∷ []
operands_of (Add rd rs1 rs2) = rs1 ∷ rs2 ∷ []
operands_of (Sub rd rs1 rs2) = rs1 ∷ rs2 ∷ []
operands_of (Sll rd rs1 rs2) = rs1 ∷ rs2 ∷ []
operands_of (Slt rd rs1 rs2) = rs1 ∷ rs2 ∷ []
operands_of (Sltu rd rs1 rs2) = rs1 ∷ rs2 ∷ []
operands_of (Xor rd rs1 rs2) = rs1 ∷ rs2 ∷ []
operands_of (Srl rd rs1 rs2) = rs1 ∷ rs2 ∷ []
operands_of (Sra rd rs1 rs2) = rs1 ∷ rs2 ∷ []
operands_of (Or rd rs1 rs2) = rs1 ∷ rs2 ∷ []
operands_of (And rd rs1 rs2) = rs1 ∷ rs2 ∷ []
operands_of (Mul rd rs1 rs2) = rs1 ∷ rs2 ∷ []
operands_of (Mulh rd rs1 rs2) = rs1 ∷ rs2 ∷ []
operands_of (Mulhsu rd rs1 rs2) = rs1 ∷ rs2 ∷ []
operands_of (Mulhu rd rs1 rs2) = rs1 ∷ rs2 ∷ []
operands_of (Div rd rs1 rs2) = rs1 ∷ rs2 ∷ []
operands_of (Divu rd rs1 rs2) = rs1 ∷ rs2 ∷ []
operands_of (Rem rd rs1 rs2) = rs1 ∷ rs2 ∷ []
operands_of (Remu rd rs1 rs2) = rs1 ∷ rs2 ∷ []
operands_of (Fence kept) = []
operands_of Ecall = []
operands_of Ebreak = []

-- the registers that a site itself reads: a call through a register reads it, a return the return address; a call of a symbol
-- or of a place reads none
abbrev pub reads_of : Kind → List ℕ
reads_of (kind.Plain insn) = operands_of insn
reads_of (kind.Call (callee.Unknown register) link) = register ∷ []
reads_of (kind.Call other link) = []
reads_of kind.Return = 1 ∷ []
reads_of kind.Stop = []
