use Rattle.std.specs.Prelude.{◌≡◌, ℕ, ℤ, pos, ◌+◌, ◌*◌, ◌^◌, ◌<◌, ◌-ℤ◌}
use Rattle.rt_insn.specs.Word.{field}

-- The formats of the 32-bit words (RISC-V unprivileged ISA, chapter RV32I, "Base Instruction Formats" and "Immediate
-- Encoding Variants"): opcode in bits 0 to 6, rd in 7 to 11, funct3 in 12 to 14, rs1 in 15 to 19, rs2 in 20 to 24,
-- funct7 in 25 to 31.

-- Immediates: each bit has its weight, and bit 31 has the weight of the sign, taken away.

-- bits 31..20 are 11..0
abbrev pub imm_i : ℕ → ℤ
imm_i w = pos (field w 20 11) -ℤ pos (2 ^ 11 * field w 31 1)

-- bits 31..25 are 11..5, bits 11..7 are 4..0
abbrev pub imm_s : ℕ → ℤ
imm_s w = pos (2 ^ 5 * field w 25 6 + field w 7 5) -ℤ pos (2 ^ 11 * field w 31 1)

-- bit 31 is 12, bit 7 is 11, bits 30..25 are 10..5, bits 11..8 are 4..1
abbrev pub imm_b : ℕ → ℤ
imm_b w = pos (2 ^ 11 * field w 7 1 + 2 ^ 5 * field w 25 6 + 2 * field w 8 4) -ℤ pos (2 ^ 12 * field w 31 1)

-- bits 31..12 are 31..12
abbrev pub imm_u : ℕ → ℤ
imm_u w = pos (2 ^ 12 * field w 12 19) -ℤ pos (2 ^ 31 * field w 31 1)

-- bit 31 is 20, bits 19..12 are 19..12, bit 20 is 11, bits 30..21 are 10..1
abbrev pub imm_j : ℕ → ℤ
imm_j w = pos (2 ^ 12 * field w 12 8 + 2 ^ 11 * field w 20 1 + 2 * field w 21 10) -ℤ pos (2 ^ 20 * field w 31 1)

-- The formats: which bits of the word say what.

-- a register and the upper 20 bits of a number
pub record IsU (opcode : ℕ) (word rd : ℕ) (imm : ℤ) : Type 0 where
  pub fits : word < 2 ^ 32
  pub has_opcode : field word 0 7 ≡ opcode
  pub has_rd : rd ≡ field word 7 5
  pub has_imm : imm ≡ imm_u word

-- a register and the distance of a jump
pub record IsJ (opcode : ℕ) (word rd : ℕ) (imm : ℤ) : Type 0 where
  pub fits : word < 2 ^ 32
  pub has_opcode : field word 0 7 ≡ opcode
  pub has_rd : rd ≡ field word 7 5
  pub has_imm : imm ≡ imm_j word

-- two registers and a short number
pub record IsI (opcode funct3 : ℕ) (word rd rs1 : ℕ) (imm : ℤ) : Type 0 where
  pub fits : word < 2 ^ 32
  pub has_opcode : field word 0 7 ≡ opcode
  pub has_funct3 : field word 12 3 ≡ funct3
  pub has_rd : rd ≡ field word 7 5
  pub has_rs1 : rs1 ≡ field word 15 5
  pub has_imm : imm ≡ imm_i word

-- stores: the registers of address and data, and a short number
pub record IsS (opcode funct3 : ℕ) (word rs1 rs2 : ℕ) (imm : ℤ) : Type 0 where
  pub fits : word < 2 ^ 32
  pub has_opcode : field word 0 7 ≡ opcode
  pub has_funct3 : field word 12 3 ≡ funct3
  pub has_rs1 : rs1 ≡ field word 15 5
  pub has_rs2 : rs2 ≡ field word 20 5
  pub has_imm : imm ≡ imm_s word

-- two registers and the distance of a branch
pub record IsB (opcode funct3 : ℕ) (word rs1 rs2 : ℕ) (imm : ℤ) : Type 0 where
  pub fits : word < 2 ^ 32
  pub has_opcode : field word 0 7 ≡ opcode
  pub has_funct3 : field word 12 3 ≡ funct3
  pub has_rs1 : rs1 ≡ field word 15 5
  pub has_rs2 : rs2 ≡ field word 20 5
  pub has_imm : imm ≡ imm_b word

-- three registers; also the shifts by an amount, which stands in rs2
pub record IsR (opcode funct3 funct7 : ℕ) (word rd rs1 rs2 : ℕ) : Type 0 where
  pub fits : word < 2 ^ 32
  pub has_opcode : field word 0 7 ≡ opcode
  pub has_funct3 : field word 12 3 ≡ funct3
  pub has_funct7 : field word 25 7 ≡ funct7
  pub has_rd : rd ≡ field word 7 5
  pub has_rs1 : rs1 ≡ field word 15 5
  pub has_rs2 : rs2 ≡ field word 20 5

-- all fields other than opcode and funct3 are kept as one number, at their places
pub record IsFence (opcode funct3 : ℕ) (word kept : ℕ) : Type 0 where
  pub fits : word < 2 ^ 32
  pub has_opcode : field word 0 7 ≡ opcode
  pub has_funct3 : field word 12 3 ≡ funct3
  pub has_kept : kept ≡ 2 ^ 15 * field word 15 17 + 2 ^ 7 * field word 7 5
