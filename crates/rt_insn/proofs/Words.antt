use Rattle.std.proofs.Common.{◌≡◌, ℕ, ℤ, pos, ◌-ℤ◌, ◌+◌, ◌*◌, ◌^◌, ◌<◌, sym, ◌∙◌, arith}
use Rattle.std.proofs.lemmas.Int.{ints}
use Rattle.rt_insn.specs.Word.{field}
use Rattle.rt_insn.specs.Format.{IsU, IsJ, IsI, IsS, IsB, IsR, IsFence}
use Rattle.rt_insn.specs.Table.{IsCode}
use Rattle.rt_insn.specs.declared.insn.Insn.{Insn}
use Rattle.rt_insn.specs.declared.insn.Insn.TheVariants.{Lui, Auipc, Jal, Jalr, Beq, Bne, Blt, Bge, Bltu, Bgeu, Lb, Lh, Lw, Lbu, Lhu, Sb, Sh, Sw, Addi, Slti, Sltiu, Xori, Ori, Andi, Slli, Srli, Srai, Add, Sub, Sll, Slt, Sltu, Xor, Srl, Sra, Or, And, Mul, Mulh, Mulhsu, Mulhu, Div, Divu, Rem, Remu, Fence, Ecall, Ebreak}

-- a sign and the bits below it, of a number of 13 bits
signed-parts : (p q s t : ℕ) → p < 2 ^ 12 → q < 2 ^ 12 → s < 2 → t < 2 → pos p -ℤ pos (2 ^ 12 * s) ≡ pos q -ℤ pos (2 ^ 12 * t) → (p ≡ q) × (s ≡ t)
signed-parts p q s t hp hq hs ht e = (omega (arith, ints), omega (arith, ints))

-- The fields of a format fill the word, so that they determine it.

IsU-word : (opcode v w rd : ℕ) (imm : ℤ) → IsU opcode v rd imm → IsU opcode w rd imm → v ≡ w
IsU-word opcode v w rd imm g h = omega (arith, ints)

IsJ-word : (opcode v w rd : ℕ) (imm : ℤ) → IsJ opcode v rd imm → IsJ opcode w rd imm → v ≡ w
IsJ-word opcode v w rd imm g h = omega (arith, ints)

IsI-word : (opcode funct3 v w rd rs1 : ℕ) (imm : ℤ) → IsI opcode funct3 v rd rs1 imm → IsI opcode funct3 w rd rs1 imm → v ≡ w
IsI-word opcode funct3 v w rd rs1 imm g h = omega (arith, ints)

IsS-word : (opcode funct3 v w rs1 rs2 : ℕ) (imm : ℤ) → IsS opcode funct3 v rs1 rs2 imm → IsS opcode funct3 w rs1 rs2 imm → v ≡ w
IsS-word opcode funct3 v w rs1 rs2 imm g h = omega (arith, ints)

IsB-word : (opcode funct3 v w rs1 rs2 : ℕ) (imm : ℤ) → IsB opcode funct3 v rs1 rs2 imm → IsB opcode funct3 w rs1 rs2 imm → v ≡ w
IsB-word opcode funct3 v w rs1 rs2 imm g h =
    let parts = signed-parts
    (2 ^ 11 * field v 7 1 + 2 ^ 5 * field v 25 6 + 2 * field v 8 4)
    (2 ^ 11 * field w 7 1 + 2 ^ 5 * field w 25 6 + 2 * field w 8 4)
    (field v 31 1) (field w 31 1)
    (omega arith) (omega arith) (omega arith) (omega arith) (sym g.has_imm ∙ h.has_imm) in
    omega arith

IsR-word : (opcode funct3 funct7 v w rd rs1 rs2 : ℕ) → IsR opcode funct3 funct7 v rd rs1 rs2 → IsR opcode funct3 funct7 w rd rs1 rs2 → v ≡ w
IsR-word opcode funct3 funct7 v w rd rs1 rs2 g h = omega (arith, ints)

IsFence-word : (opcode funct3 v w kept : ℕ) → IsFence opcode funct3 v kept → IsFence opcode funct3 w kept → v ≡ w
IsFence-word opcode funct3 v w kept g h = omega (arith, ints)

-- an instruction has one word
pub code-word : (v w : ℕ) (i : Insn) → IsCode v i → IsCode w i → v ≡ w
code-word v w (Lui rd imm) g h = IsU-word _ _ _ _ _ g h
code-word v w (Auipc rd imm) g h = IsU-word _ _ _ _ _ g h
code-word v w (Jal rd imm) g h = IsJ-word _ _ _ _ _ g h
code-word v w (Jalr rd rs1 imm) g h = IsI-word _ _ _ _ _ _ _ g h
code-word v w (Beq rs1 rs2 imm) g h = IsB-word _ _ _ _ _ _ _ g h
code-word v w (Bne rs1 rs2 imm) g h = IsB-word _ _ _ _ _ _ _ g h
code-word v w (Blt rs1 rs2 imm) g h = IsB-word _ _ _ _ _ _ _ g h
code-word v w (Bge rs1 rs2 imm) g h = IsB-word _ _ _ _ _ _ _ g h
code-word v w (Bltu rs1 rs2 imm) g h = IsB-word _ _ _ _ _ _ _ g h
code-word v w (Bgeu rs1 rs2 imm) g h = IsB-word _ _ _ _ _ _ _ g h
code-word v w (Lb rd rs1 imm) g h = IsI-word _ _ _ _ _ _ _ g h
code-word v w (Lh rd rs1 imm) g h = IsI-word _ _ _ _ _ _ _ g h
code-word v w (Lw rd rs1 imm) g h = IsI-word _ _ _ _ _ _ _ g h
code-word v w (Lbu rd rs1 imm) g h = IsI-word _ _ _ _ _ _ _ g h
code-word v w (Lhu rd rs1 imm) g h = IsI-word _ _ _ _ _ _ _ g h
code-word v w (Sb rs1 rs2 imm) g h = IsS-word _ _ _ _ _ _ _ g h
code-word v w (Sh rs1 rs2 imm) g h = IsS-word _ _ _ _ _ _ _ g h
code-word v w (Sw rs1 rs2 imm) g h = IsS-word _ _ _ _ _ _ _ g h
code-word v w (Addi rd rs1 imm) g h = IsI-word _ _ _ _ _ _ _ g h
code-word v w (Slti rd rs1 imm) g h = IsI-word _ _ _ _ _ _ _ g h
code-word v w (Sltiu rd rs1 imm) g h = IsI-word _ _ _ _ _ _ _ g h
code-word v w (Xori rd rs1 imm) g h = IsI-word _ _ _ _ _ _ _ g h
code-word v w (Ori rd rs1 imm) g h = IsI-word _ _ _ _ _ _ _ g h
code-word v w (Andi rd rs1 imm) g h = IsI-word _ _ _ _ _ _ _ g h
code-word v w (Slli rd rs1 rs2) g h = IsR-word _ _ _ _ _ _ _ _ g h
code-word v w (Srli rd rs1 rs2) g h = IsR-word _ _ _ _ _ _ _ _ g h
code-word v w (Srai rd rs1 rs2) g h = IsR-word _ _ _ _ _ _ _ _ g h
code-word v w (Add rd rs1 rs2) g h = IsR-word _ _ _ _ _ _ _ _ g h
code-word v w (Sub rd rs1 rs2) g h = IsR-word _ _ _ _ _ _ _ _ g h
code-word v w (Sll rd rs1 rs2) g h = IsR-word _ _ _ _ _ _ _ _ g h
code-word v w (Slt rd rs1 rs2) g h = IsR-word _ _ _ _ _ _ _ _ g h
code-word v w (Sltu rd rs1 rs2) g h = IsR-word _ _ _ _ _ _ _ _ g h
code-word v w (Xor rd rs1 rs2) g h = IsR-word _ _ _ _ _ _ _ _ g h
code-word v w (Srl rd rs1 rs2) g h = IsR-word _ _ _ _ _ _ _ _ g h
code-word v w (Sra rd rs1 rs2) g h = IsR-word _ _ _ _ _ _ _ _ g h
code-word v w (Or rd rs1 rs2) g h = IsR-word _ _ _ _ _ _ _ _ g h
code-word v w (And rd rs1 rs2) g h = IsR-word _ _ _ _ _ _ _ _ g h
code-word v w (Mul rd rs1 rs2) g h = IsR-word _ _ _ _ _ _ _ _ g h
code-word v w (Mulh rd rs1 rs2) g h = IsR-word _ _ _ _ _ _ _ _ g h
code-word v w (Mulhsu rd rs1 rs2) g h = IsR-word _ _ _ _ _ _ _ _ g h
code-word v w (Mulhu rd rs1 rs2) g h = IsR-word _ _ _ _ _ _ _ _ g h
code-word v w (Div rd rs1 rs2) g h = IsR-word _ _ _ _ _ _ _ _ g h
code-word v w (Divu rd rs1 rs2) g h = IsR-word _ _ _ _ _ _ _ _ g h
code-word v w (Rem rd rs1 rs2) g h = IsR-word _ _ _ _ _ _ _ _ g h
code-word v w (Remu rd rs1 rs2) g h = IsR-word _ _ _ _ _ _ _ _ g h
code-word v w (Fence kept) g h = IsFence-word _ _ _ _ _ g h
code-word v w Ecall g h = g ∙ sym h
code-word v w Ebreak g h = g ∙ sym h
