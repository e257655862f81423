use Rattle.std.specs.Prelude.{ℕ, ◌+◌, ◌*◌, ◌^◌, ◌==◌, ◌&&◌, Option, Some, None, if◌then◌else◌}
use Rattle.rt_insn.specs.Word.{field}
use Rattle.rt_insn.specs.Format.{imm_i, imm_s, imm_b, imm_u, imm_j}
use Rattle.rt_insn.specs.declared.insn.Insn.{Insn}
use Rattle.rt_insn.specs.declared.insn.Insn.TheVariants.{Lui, Auipc, Jal, Jalr, Beq, Bne, Blt, Bge, Bltu, Bgeu, Lb, Lh, Lw, Lbu, Lhu, Sb}
use Rattle.rt_insn.specs.declared.insn.Insn.TheVariants.{Sh, Sw, Addi, Slti, Sltiu, Xori, Ori, Andi, Slli, Srli, Srai, Add, Sub, Sll}
use Rattle.rt_insn.specs.declared.insn.Insn.TheVariants.{Slt, Sltu, Xor, Srl, Sra, Or, And, Mul, Mulh, Mulhsu, Mulhu, Div, Divu, Rem}
use Rattle.rt_insn.specs.declared.insn.Insn.TheVariants.{Remu, Fence, Ecall, Ebreak}

-- The table read from the word's side: the instruction of a word, found field by field. Only private functions cite
-- it; that it agrees with the table is proved.

-- the instruction of a word of opcode JALR
unfoldable pub jalr_of : ℕ → Option Insn
jalr_of w =
    if field w 12 3 == 0 then Some (Jalr (field w 7 5) (field w 15 5) (imm_i w)) else
    None

-- the instruction of a word of opcode BRANCH
unfoldable pub branch_of : ℕ → Option Insn
branch_of w =
    if field w 12 3 == 0 then Some (Beq (field w 15 5) (field w 20 5) (imm_b w)) else
    if field w 12 3 == 1 then Some (Bne (field w 15 5) (field w 20 5) (imm_b w)) else
    if field w 12 3 == 4 then Some (Blt (field w 15 5) (field w 20 5) (imm_b w)) else
    if field w 12 3 == 5 then Some (Bge (field w 15 5) (field w 20 5) (imm_b w)) else
    if field w 12 3 == 6 then Some (Bltu (field w 15 5) (field w 20 5) (imm_b w)) else
    if field w 12 3 == 7 then Some (Bgeu (field w 15 5) (field w 20 5) (imm_b w)) else
    None

-- the instruction of a word of opcode LOAD
unfoldable pub load_of : ℕ → Option Insn
load_of w =
    if field w 12 3 == 0 then Some (Lb (field w 7 5) (field w 15 5) (imm_i w)) else
    if field w 12 3 == 1 then Some (Lh (field w 7 5) (field w 15 5) (imm_i w)) else
    if field w 12 3 == 2 then Some (Lw (field w 7 5) (field w 15 5) (imm_i w)) else
    if field w 12 3 == 4 then Some (Lbu (field w 7 5) (field w 15 5) (imm_i w)) else
    if field w 12 3 == 5 then Some (Lhu (field w 7 5) (field w 15 5) (imm_i w)) else
    None

-- the instruction of a word of opcode STORE
unfoldable pub store_of : ℕ → Option Insn
store_of w =
    if field w 12 3 == 0 then Some (Sb (field w 15 5) (field w 20 5) (imm_s w)) else
    if field w 12 3 == 1 then Some (Sh (field w 15 5) (field w 20 5) (imm_s w)) else
    if field w 12 3 == 2 then Some (Sw (field w 15 5) (field w 20 5) (imm_s w)) else
    None

-- the instruction of a word of opcode OP-IMM that is a shift
unfoldable pub shift_imm_of : ℕ → Option Insn
shift_imm_of w =
    if field w 25 7 == 0x00 && field w 12 3 == 1 then Some (Slli (field w 7 5) (field w 15 5) (field w 20 5)) else
    if field w 25 7 == 0x00 && field w 12 3 == 5 then Some (Srli (field w 7 5) (field w 15 5) (field w 20 5)) else
    if field w 25 7 == 0x20 && field w 12 3 == 5 then Some (Srai (field w 7 5) (field w 15 5) (field w 20 5)) else
    None

-- the instruction of a word of opcode OP-IMM
unfoldable pub op_imm_of : ℕ → Option Insn
op_imm_of w =
    if field w 12 3 == 0 then Some (Addi (field w 7 5) (field w 15 5) (imm_i w)) else
    if field w 12 3 == 2 then Some (Slti (field w 7 5) (field w 15 5) (imm_i w)) else
    if field w 12 3 == 3 then Some (Sltiu (field w 7 5) (field w 15 5) (imm_i w)) else
    if field w 12 3 == 4 then Some (Xori (field w 7 5) (field w 15 5) (imm_i w)) else
    if field w 12 3 == 6 then Some (Ori (field w 7 5) (field w 15 5) (imm_i w)) else
    if field w 12 3 == 7 then Some (Andi (field w 7 5) (field w 15 5) (imm_i w)) else
    shift_imm_of w

-- the instruction of a word of opcode OP
unfoldable pub op_of : ℕ → Option Insn
op_of w =
    if field w 25 7 == 0x00 && field w 12 3 == 0 then Some (Add (field w 7 5) (field w 15 5) (field w 20 5)) else
    if field w 25 7 == 0x00 && field w 12 3 == 1 then Some (Sll (field w 7 5) (field w 15 5) (field w 20 5)) else
    if field w 25 7 == 0x00 && field w 12 3 == 2 then Some (Slt (field w 7 5) (field w 15 5) (field w 20 5)) else
    if field w 25 7 == 0x00 && field w 12 3 == 3 then Some (Sltu (field w 7 5) (field w 15 5) (field w 20 5)) else
    if field w 25 7 == 0x00 && field w 12 3 == 4 then Some (Xor (field w 7 5) (field w 15 5) (field w 20 5)) else
    if field w 25 7 == 0x00 && field w 12 3 == 5 then Some (Srl (field w 7 5) (field w 15 5) (field w 20 5)) else
    if field w 25 7 == 0x00 && field w 12 3 == 6 then Some (Or (field w 7 5) (field w 15 5) (field w 20 5)) else
    if field w 25 7 == 0x00 && field w 12 3 == 7 then Some (And (field w 7 5) (field w 15 5) (field w 20 5)) else
    if field w 25 7 == 0x20 && field w 12 3 == 0 then Some (Sub (field w 7 5) (field w 15 5) (field w 20 5)) else
    if field w 25 7 == 0x20 && field w 12 3 == 5 then Some (Sra (field w 7 5) (field w 15 5) (field w 20 5)) else
    if field w 25 7 == 0x01 && field w 12 3 == 0 then Some (Mul (field w 7 5) (field w 15 5) (field w 20 5)) else
    if field w 25 7 == 0x01 && field w 12 3 == 1 then Some (Mulh (field w 7 5) (field w 15 5) (field w 20 5)) else
    if field w 25 7 == 0x01 && field w 12 3 == 2 then Some (Mulhsu (field w 7 5) (field w 15 5) (field w 20 5)) else
    if field w 25 7 == 0x01 && field w 12 3 == 3 then Some (Mulhu (field w 7 5) (field w 15 5) (field w 20 5)) else
    if field w 25 7 == 0x01 && field w 12 3 == 4 then Some (Div (field w 7 5) (field w 15 5) (field w 20 5)) else
    if field w 25 7 == 0x01 && field w 12 3 == 5 then Some (Divu (field w 7 5) (field w 15 5) (field w 20 5)) else
    if field w 25 7 == 0x01 && field w 12 3 == 6 then Some (Rem (field w 7 5) (field w 15 5) (field w 20 5)) else
    if field w 25 7 == 0x01 && field w 12 3 == 7 then Some (Remu (field w 7 5) (field w 15 5) (field w 20 5)) else
    None

-- the instruction of a word of opcode MISC-MEM
unfoldable pub fence_of : ℕ → Option Insn
fence_of w =
    if field w 12 3 == 0 then Some (Fence (2 ^ 15 * field w 15 17 + 2 ^ 7 * field w 7 5)) else
    None

-- the instruction of a word of opcode SYSTEM
unfoldable pub system_of : ℕ → Option Insn
system_of w =
    if w == 0x00000073 then Some Ecall else
    if w == 0x00100073 then Some Ebreak else
    None

-- the instruction of a word
unfoldable pub insn_of : ℕ → Option Insn
insn_of w =
    if field w 0 7 == 0x37 then Some (Lui (field w 7 5) (imm_u w)) else
    if field w 0 7 == 0x17 then Some (Auipc (field w 7 5) (imm_u w)) else
    if field w 0 7 == 0x6F then Some (Jal (field w 7 5) (imm_j w)) else
    if field w 0 7 == 0x67 then jalr_of w else
    if field w 0 7 == 0x63 then branch_of w else
    if field w 0 7 == 0x03 then load_of w else
    if field w 0 7 == 0x23 then store_of w else
    if field w 0 7 == 0x13 then op_imm_of w else
    if field w 0 7 == 0x33 then op_of w else
    if field w 0 7 == 0x0F then fence_of w else
    if field w 0 7 == 0x73 then system_of w else
    None
