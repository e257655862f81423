use Rattle.std.specs.Prelude.{◌≡◌, ℕ}
use Rattle.rt_insn.specs.Format.{IsU, IsJ, IsI, IsS, IsB, IsR, IsFence}
use Rattle.rt_insn.specs.declared.insn.Insn.{Insn}
use Rattle.rt_insn.specs.declared.insn.Insn.TheVariants.{Lui, Auipc, Jal, Jalr, Beq, Bne, Blt, Bge, Bltu, Bgeu, Lb, Lh, Lw, Lbu, Lhu, Sb}
use Rattle.rt_insn.specs.declared.insn.Insn.TheVariants.{Sh, Sw, Addi, Slti, Sltiu, Xori, Ori, Andi, Slli, Srli, Srai, Add, Sub, Sll}
use Rattle.rt_insn.specs.declared.insn.Insn.TheVariants.{Slt, Sltu, Xor, Srl, Sra, Or, And, Mul, Mulh, Mulhsu, Mulhu, Div, Divu, Rem}
use Rattle.rt_insn.specs.declared.insn.Insn.TheVariants.{Remu, Fence, Ecall, Ebreak}

-- The code table: which 32-bit word is which instruction (RISC-V unprivileged ISA, the table of instruction listings
-- for RV32I and RV32M). Behind a format stand the opcode, then funct3 and funct7 where the format has them.
abbrev pub IsCode : ℕ → Insn → Type 0
IsCode w (Lui rd imm) = IsU 0x37 w rd imm
IsCode w (Auipc rd imm) = IsU 0x17 w rd imm
IsCode w (Jal rd imm) = IsJ 0x6F w rd imm
IsCode w (Jalr rd rs1 imm) = IsI 0x67 0 w rd rs1 imm
IsCode w (Beq rs1 rs2 imm) = IsB 0x63 0 w rs1 rs2 imm
IsCode w (Bne rs1 rs2 imm) = IsB 0x63 1 w rs1 rs2 imm
IsCode w (Blt rs1 rs2 imm) = IsB 0x63 4 w rs1 rs2 imm
IsCode w (Bge rs1 rs2 imm) = IsB 0x63 5 w rs1 rs2 imm
IsCode w (Bltu rs1 rs2 imm) = IsB 0x63 6 w rs1 rs2 imm
IsCode w (Bgeu rs1 rs2 imm) = IsB 0x63 7 w rs1 rs2 imm
IsCode w (Lb rd rs1 imm) = IsI 0x03 0 w rd rs1 imm
IsCode w (Lh rd rs1 imm) = IsI 0x03 1 w rd rs1 imm
IsCode w (Lw rd rs1 imm) = IsI 0x03 2 w rd rs1 imm
IsCode w (Lbu rd rs1 imm) = IsI 0x03 4 w rd rs1 imm
IsCode w (Lhu rd rs1 imm) = IsI 0x03 5 w rd rs1 imm
IsCode w (Sb rs1 rs2 imm) = IsS 0x23 0 w rs1 rs2 imm
IsCode w (Sh rs1 rs2 imm) = IsS 0x23 1 w rs1 rs2 imm
IsCode w (Sw rs1 rs2 imm) = IsS 0x23 2 w rs1 rs2 imm
IsCode w (Addi rd rs1 imm) = IsI 0x13 0 w rd rs1 imm
IsCode w (Slti rd rs1 imm) = IsI 0x13 2 w rd rs1 imm
IsCode w (Sltiu rd rs1 imm) = IsI 0x13 3 w rd rs1 imm
IsCode w (Xori rd rs1 imm) = IsI 0x13 4 w rd rs1 imm
IsCode w (Ori rd rs1 imm) = IsI 0x13 6 w rd rs1 imm
IsCode w (Andi rd rs1 imm) = IsI 0x13 7 w rd rs1 imm
IsCode w (Slli rd rs1 amount) = IsR 0x13 1 0x00 w rd rs1 amount
IsCode w (Srli rd rs1 amount) = IsR 0x13 5 0x00 w rd rs1 amount
IsCode w (Srai rd rs1 amount) = IsR 0x13 5 0x20 w rd rs1 amount
IsCode w (Add rd rs1 rs2) = IsR 0x33 0 0x00 w rd rs1 rs2
IsCode w (Sub rd rs1 rs2) = IsR 0x33 0 0x20 w rd rs1 rs2
IsCode w (Sll rd rs1 rs2) = IsR 0x33 1 0x00 w rd rs1 rs2
IsCode w (Slt rd rs1 rs2) = IsR 0x33 2 0x00 w rd rs1 rs2
IsCode w (Sltu rd rs1 rs2) = IsR 0x33 3 0x00 w rd rs1 rs2
IsCode w (Xor rd rs1 rs2) = IsR 0x33 4 0x00 w rd rs1 rs2
IsCode w (Srl rd rs1 rs2) = IsR 0x33 5 0x00 w rd rs1 rs2
IsCode w (Sra rd rs1 rs2) = IsR 0x33 5 0x20 w rd rs1 rs2
IsCode w (Or rd rs1 rs2) = IsR 0x33 6 0x00 w rd rs1 rs2
IsCode w (And rd rs1 rs2) = IsR 0x33 7 0x00 w rd rs1 rs2
IsCode w (Mul rd rs1 rs2) = IsR 0x33 0 0x01 w rd rs1 rs2
IsCode w (Mulh rd rs1 rs2) = IsR 0x33 1 0x01 w rd rs1 rs2
IsCode w (Mulhsu rd rs1 rs2) = IsR 0x33 2 0x01 w rd rs1 rs2
IsCode w (Mulhu rd rs1 rs2) = IsR 0x33 3 0x01 w rd rs1 rs2
IsCode w (Div rd rs1 rs2) = IsR 0x33 4 0x01 w rd rs1 rs2
IsCode w (Divu rd rs1 rs2) = IsR 0x33 5 0x01 w rd rs1 rs2
IsCode w (Rem rd rs1 rs2) = IsR 0x33 6 0x01 w rd rs1 rs2
IsCode w (Remu rd rs1 rs2) = IsR 0x33 7 0x01 w rd rs1 rs2
IsCode w (Fence kept) = IsFence 0x0F 0 w kept
IsCode w Ecall = w ≡ 0x00000073
IsCode w Ebreak = w ≡ 0x00100073
