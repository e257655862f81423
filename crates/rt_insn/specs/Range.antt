use Rattle.std.specs.Prelude.{◌≡◌, ℕ, ℤ, pos, unsigned_abs, ◌-ℤ◌, ◌≤ℤ◌, ◌<ℤ◌, ◌<◌, ◌^◌, ◌%◌}
use Rattle.rt_insn.specs.Word.{field}
use Rattle.rt_insn.specs.declared.insn.Insn.{Insn}
use Rattle.rt_insn.specs.declared.insn.Insn.TheVariants.{Lui, Auipc, Jal, Jalr, Beq, Bne, Blt, Bge, Bltu, Bgeu, Lb, Lh, Lw, Lbu, Lhu, Sb}
use Rattle.rt_insn.specs.declared.insn.Insn.TheVariants.{Sh, Sw, Addi, Slti, Sltiu, Xori, Ori, Andi, Slli, Srli, Srai, Add, Sub, Sll}
use Rattle.rt_insn.specs.declared.insn.Insn.TheVariants.{Slt, Sltu, Xor, Srl, Sra, Or, And, Mul, Mulh, Mulhsu, Mulhu, Div, Divu, Rem}
use Rattle.rt_insn.specs.declared.insn.Insn.TheVariants.{Remu, Fence, Ecall, Ebreak}

-- the numbers from -bound on and under bound
abbrev pub Within : ℕ → ℤ → Type 0
Within bound z = ((pos 0 -ℤ pos bound) ≤ℤ z) × (z <ℤ pos bound)

-- a multiple of n
abbrev pub IsMultiple : ℕ → ℤ → Type 0
IsMultiple n z = unsigned_abs z % n ≡ 0

-- the immediates of U
abbrev pub IsUpper : ℤ → Type 0
IsUpper imm = Within (2 ^ 31) imm × IsMultiple (2 ^ 12) imm

-- the immediates of J
abbrev pub IsJump : ℤ → Type 0
IsJump imm = Within (2 ^ 20) imm × IsMultiple 2 imm

-- the immediates of B
abbrev pub IsBranch : ℤ → Type 0
IsBranch imm = Within (2 ^ 12) imm × IsMultiple 2 imm

-- the immediates of I and S
abbrev pub IsShort : ℤ → Type 0
IsShort imm = Within (2 ^ 11) imm

-- what the fields of an instruction may hold
abbrev pub HasRange : Insn → Type 0
HasRange (Lui rd imm) = (rd < 32) × IsUpper imm
HasRange (Auipc rd imm) = (rd < 32) × IsUpper imm
HasRange (Jal rd imm) = (rd < 32) × IsJump imm
HasRange (Jalr rd rs1 imm) = (rd < 32) × (rs1 < 32) × IsShort imm
HasRange (Beq rs1 rs2 imm) = (rs1 < 32) × (rs2 < 32) × IsBranch imm
HasRange (Bne rs1 rs2 imm) = (rs1 < 32) × (rs2 < 32) × IsBranch imm
HasRange (Blt rs1 rs2 imm) = (rs1 < 32) × (rs2 < 32) × IsBranch imm
HasRange (Bge rs1 rs2 imm) = (rs1 < 32) × (rs2 < 32) × IsBranch imm
HasRange (Bltu rs1 rs2 imm) = (rs1 < 32) × (rs2 < 32) × IsBranch imm
HasRange (Bgeu rs1 rs2 imm) = (rs1 < 32) × (rs2 < 32) × IsBranch imm
HasRange (Lb rd rs1 imm) = (rd < 32) × (rs1 < 32) × IsShort imm
HasRange (Lh rd rs1 imm) = (rd < 32) × (rs1 < 32) × IsShort imm
HasRange (Lw rd rs1 imm) = (rd < 32) × (rs1 < 32) × IsShort imm
HasRange (Lbu rd rs1 imm) = (rd < 32) × (rs1 < 32) × IsShort imm
HasRange (Lhu rd rs1 imm) = (rd < 32) × (rs1 < 32) × IsShort imm
HasRange (Sb rs1 rs2 imm) = (rs1 < 32) × (rs2 < 32) × IsShort imm
HasRange (Sh rs1 rs2 imm) = (rs1 < 32) × (rs2 < 32) × IsShort imm
HasRange (Sw rs1 rs2 imm) = (rs1 < 32) × (rs2 < 32) × IsShort imm
HasRange (Addi rd rs1 imm) = (rd < 32) × (rs1 < 32) × IsShort imm
HasRange (Slti rd rs1 imm) = (rd < 32) × (rs1 < 32) × IsShort imm
HasRange (Sltiu rd rs1 imm) = (rd < 32) × (rs1 < 32) × IsShort imm
HasRange (Xori rd rs1 imm) = (rd < 32) × (rs1 < 32) × IsShort imm
HasRange (Ori rd rs1 imm) = (rd < 32) × (rs1 < 32) × IsShort imm
HasRange (Andi rd rs1 imm) = (rd < 32) × (rs1 < 32) × IsShort imm
HasRange (Slli rd rs1 amount) = (rd < 32) × (rs1 < 32) × (amount < 32)
HasRange (Srli rd rs1 amount) = (rd < 32) × (rs1 < 32) × (amount < 32)
HasRange (Srai rd rs1 amount) = (rd < 32) × (rs1 < 32) × (amount < 32)
HasRange (Add rd rs1 rs2) = (rd < 32) × (rs1 < 32) × (rs2 < 32)
HasRange (Sub rd rs1 rs2) = (rd < 32) × (rs1 < 32) × (rs2 < 32)
HasRange (Sll rd rs1 rs2) = (rd < 32) × (rs1 < 32) × (rs2 < 32)
HasRange (Slt rd rs1 rs2) = (rd < 32) × (rs1 < 32) × (rs2 < 32)
HasRange (Sltu rd rs1 rs2) = (rd < 32) × (rs1 < 32) × (rs2 < 32)
HasRange (Xor rd rs1 rs2) = (rd < 32) × (rs1 < 32) × (rs2 < 32)
HasRange (Srl rd rs1 rs2) = (rd < 32) × (rs1 < 32) × (rs2 < 32)
HasRange (Sra rd rs1 rs2) = (rd < 32) × (rs1 < 32) × (rs2 < 32)
HasRange (Or rd rs1 rs2) = (rd < 32) × (rs1 < 32) × (rs2 < 32)
HasRange (And rd rs1 rs2) = (rd < 32) × (rs1 < 32) × (rs2 < 32)
HasRange (Mul rd rs1 rs2) = (rd < 32) × (rs1 < 32) × (rs2 < 32)
HasRange (Mulh rd rs1 rs2) = (rd < 32) × (rs1 < 32) × (rs2 < 32)
HasRange (Mulhsu rd rs1 rs2) = (rd < 32) × (rs1 < 32) × (rs2 < 32)
HasRange (Mulhu rd rs1 rs2) = (rd < 32) × (rs1 < 32) × (rs2 < 32)
HasRange (Div rd rs1 rs2) = (rd < 32) × (rs1 < 32) × (rs2 < 32)
HasRange (Divu rd rs1 rs2) = (rd < 32) × (rs1 < 32) × (rs2 < 32)
HasRange (Rem rd rs1 rs2) = (rd < 32) × (rs1 < 32) × (rs2 < 32)
HasRange (Remu rd rs1 rs2) = (rd < 32) × (rs1 < 32) × (rs2 < 32)
HasRange (Fence kept) = (kept < 2 ^ 32) × (field kept 0 7 ≡ 0) × (field kept 12 3 ≡ 0)
HasRange Ecall = Unit {0}
HasRange Ebreak = Unit {0}
