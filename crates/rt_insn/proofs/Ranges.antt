use Rattle.std.proofs.Common.{ℕ, ℤ, ◌<◌, arith}
use Rattle.std.proofs.lemmas.Int.{ints}
use Rattle.rt_insn.specs.Format.{IsU, IsJ, IsI, IsS, IsB, IsR, IsFence}
use Rattle.rt_insn.specs.Table.{IsCode}
use Rattle.rt_insn.specs.Range.{IsUpper, IsJump, IsBranch, IsShort, HasRange}
use Rattle.rt_insn.specs.declared.insn.Insn.{Insn}
use Rattle.rt_insn.specs.declared.insn.Insn.TheVariants.{Lui, Auipc, Jal, Jalr, Beq, Bne, Blt, Bge, Bltu, Bgeu, Lb, Lh, Lw, Lbu, Lhu, Sb, Sh, Sw, Addi, Slti, Sltiu, Xori, Ori, Andi, Slli, Srli, Srai, Add, Sub, Sll, Slt, Sltu, Xor, Srl, Sra, Or, And, Mul, Mulh, Mulhsu, Mulhu, Div, Divu, Rem, Remu, Fence, Ecall, Ebreak}

-- What the fields of a format hold is in range.

IsU-range : (opcode w rd : ℕ) (imm : ℤ) → IsU opcode w rd imm → (rd < 32) × IsUpper imm
IsU-range opcode w rd imm h = (omega arith, ((omega (arith, ints), omega (arith, ints)), omega (arith, ints)))

IsJ-range : (opcode w rd : ℕ) (imm : ℤ) → IsJ opcode w rd imm → (rd < 32) × IsJump imm
IsJ-range opcode w rd imm h = (omega arith, ((omega (arith, ints), omega (arith, ints)), omega (arith, ints)))

IsI-range : (opcode funct3 w rd rs1 : ℕ) (imm : ℤ) → IsI opcode funct3 w rd rs1 imm → (rd < 32) × (rs1 < 32) × IsShort imm
IsI-range opcode funct3 w rd rs1 imm h = (omega arith, omega arith, (omega (arith, ints), omega (arith, ints)))

IsS-range : (opcode funct3 w rs1 rs2 : ℕ) (imm : ℤ) → IsS opcode funct3 w rs1 rs2 imm → (rs1 < 32) × (rs2 < 32) × IsShort imm
IsS-range opcode funct3 w rs1 rs2 imm h = (omega arith, omega arith, (omega (arith, ints), omega (arith, ints)))

IsB-range : (opcode funct3 w rs1 rs2 : ℕ) (imm : ℤ) → IsB opcode funct3 w rs1 rs2 imm → (rs1 < 32) × (rs2 < 32) × IsBranch imm
IsB-range opcode funct3 w rs1 rs2 imm h = (omega arith, omega arith, ((omega (arith, ints), omega (arith, ints)), omega (arith, ints)))

IsR-range : (opcode funct3 funct7 w rd rs1 rs2 : ℕ) → IsR opcode funct3 funct7 w rd rs1 rs2 → (rd < 32) × (rs1 < 32) × (rs2 < 32)
IsR-range opcode funct3 funct7 w rd rs1 rs2 h = (omega arith, omega arith, omega arith)

IsFence-range : (opcode funct3 w kept : ℕ) → IsFence opcode funct3 w kept → HasRange (Fence kept)
IsFence-range opcode funct3 w kept h = (omega arith, omega arith, omega arith)

-- the instruction of a word is in range
pub code-range : (w : ℕ) (i : Insn) → IsCode w i → HasRange i
code-range w (Lui rd imm) h = IsU-range _ _ _ _ h
code-range w (Auipc rd imm) h = IsU-range _ _ _ _ h
code-range w (Jal rd imm) h = IsJ-range _ _ _ _ h
code-range w (Jalr rd rs1 imm) h = IsI-range _ _ _ _ _ _ h
code-range w (Beq rs1 rs2 imm) h = IsB-range _ _ _ _ _ _ h
code-range w (Bne rs1 rs2 imm) h = IsB-range _ _ _ _ _ _ h
code-range w (Blt rs1 rs2 imm) h = IsB-range _ _ _ _ _ _ h
code-range w (Bge rs1 rs2 imm) h = IsB-range _ _ _ _ _ _ h
code-range w (Bltu rs1 rs2 imm) h = IsB-range _ _ _ _ _ _ h
code-range w (Bgeu rs1 rs2 imm) h = IsB-range _ _ _ _ _ _ h
code-range w (Lb rd rs1 imm) h = IsI-range _ _ _ _ _ _ h
code-range w (Lh rd rs1 imm) h = IsI-range _ _ _ _ _ _ h
code-range w (Lw rd rs1 imm) h = IsI-range _ _ _ _ _ _ h
code-range w (Lbu rd rs1 imm) h = IsI-range _ _ _ _ _ _ h
code-range w (Lhu rd rs1 imm) h = IsI-range _ _ _ _ _ _ h
code-range w (Sb rs1 rs2 imm) h = IsS-range _ _ _ _ _ _ h
code-range w (Sh rs1 rs2 imm) h = IsS-range _ _ _ _ _ _ h
code-range w (Sw rs1 rs2 imm) h = IsS-range _ _ _ _ _ _ h
code-range w (Addi rd rs1 imm) h = IsI-range _ _ _ _ _ _ h
code-range w (Slti rd rs1 imm) h = IsI-range _ _ _ _ _ _ h
code-range w (Sltiu rd rs1 imm) h = IsI-range _ _ _ _ _ _ h
code-range w (Xori rd rs1 imm) h = IsI-range _ _ _ _ _ _ h
code-range w (Ori rd rs1 imm) h = IsI-range _ _ _ _ _ _ h
code-range w (Andi rd rs1 imm) h = IsI-range _ _ _ _ _ _ h
code-range w (Slli rd rs1 rs2) h = IsR-range _ _ _ _ _ _ _ h
code-range w (Srli rd rs1 rs2) h = IsR-range _ _ _ _ _ _ _ h
code-range w (Srai rd rs1 rs2) h = IsR-range _ _ _ _ _ _ _ h
code-range w (Add rd rs1 rs2) h = IsR-range _ _ _ _ _ _ _ h
code-range w (Sub rd rs1 rs2) h = IsR-range _ _ _ _ _ _ _ h
code-range w (Sll rd rs1 rs2) h = IsR-range _ _ _ _ _ _ _ h
code-range w (Slt rd rs1 rs2) h = IsR-range _ _ _ _ _ _ _ h
code-range w (Sltu rd rs1 rs2) h = IsR-range _ _ _ _ _ _ _ h
code-range w (Xor rd rs1 rs2) h = IsR-range _ _ _ _ _ _ _ h
code-range w (Srl rd rs1 rs2) h = IsR-range _ _ _ _ _ _ _ h
code-range w (Sra rd rs1 rs2) h = IsR-range _ _ _ _ _ _ _ h
code-range w (Or rd rs1 rs2) h = IsR-range _ _ _ _ _ _ _ h
code-range w (And rd rs1 rs2) h = IsR-range _ _ _ _ _ _ _ h
code-range w (Mul rd rs1 rs2) h = IsR-range _ _ _ _ _ _ _ h
code-range w (Mulh rd rs1 rs2) h = IsR-range _ _ _ _ _ _ _ h
code-range w (Mulhsu rd rs1 rs2) h = IsR-range _ _ _ _ _ _ _ h
code-range w (Mulhu rd rs1 rs2) h = IsR-range _ _ _ _ _ _ _ h
code-range w (Div rd rs1 rs2) h = IsR-range _ _ _ _ _ _ _ h
code-range w (Divu rd rs1 rs2) h = IsR-range _ _ _ _ _ _ _ h
code-range w (Rem rd rs1 rs2) h = IsR-range _ _ _ _ _ _ _ h
code-range w (Remu rd rs1 rs2) h = IsR-range _ _ _ _ _ _ _ h
code-range w (Fence kept) h = IsFence-range _ _ _ _ h
code-range w Ecall h = tt
code-range w Ebreak h = tt
