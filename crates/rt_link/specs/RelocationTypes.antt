-- The types of relocations that are known, by the names of the psABI (RISC-V psABI, "Relocations", the table of
-- relocation types).
use Rattle.std.specs.Prelude.{ℕ}

abbrev pub R_RISCV_NONE : ℕ
R_RISCV_NONE = 0

abbrev pub R_RISCV_32 : ℕ
R_RISCV_32 = 1

abbrev pub R_RISCV_BRANCH : ℕ
R_RISCV_BRANCH = 16

abbrev pub R_RISCV_JAL : ℕ
R_RISCV_JAL = 17

abbrev pub R_RISCV_CALL : ℕ
R_RISCV_CALL = 18

abbrev pub R_RISCV_CALL_PLT : ℕ
R_RISCV_CALL_PLT = 19

abbrev pub R_RISCV_PCREL_HI20 : ℕ
R_RISCV_PCREL_HI20 = 23

abbrev pub R_RISCV_PCREL_LO12_I : ℕ
R_RISCV_PCREL_LO12_I = 24

abbrev pub R_RISCV_PCREL_LO12_S : ℕ
R_RISCV_PCREL_LO12_S = 25

abbrev pub R_RISCV_HI20 : ℕ
R_RISCV_HI20 = 26

abbrev pub R_RISCV_LO12_I : ℕ
R_RISCV_LO12_I = 27

abbrev pub R_RISCV_LO12_S : ℕ
R_RISCV_LO12_S = 28

abbrev pub R_RISCV_ALIGN : ℕ
R_RISCV_ALIGN = 43

abbrev pub R_RISCV_RELAX : ℕ
R_RISCV_RELAX = 51
