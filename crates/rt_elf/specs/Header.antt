-- The file header (ELF gABI, "ELF Header"), and the checks of it, in order.
use Rattle.std.specs.Prelude.{ℕ, ◌+◌, ◌*◌, ◌%◌, ◌≤◌, ◌==◌, nat_lt, not, Option, List, [], ◌∷◌, length}
use Rattle.rt_base.specs.First.{fault_if, first_of}
use Rattle.rt_elf.specs.declared.fault.ElfFault.{ElfFault}
use Rattle.rt_elf.specs.declared.fault.ElfFault.TheVariants.{Bad}
use Rattle.rt_elf.specs.Fields.{byte_at, half_at, word_at}

-- how many section headers there are: e_shnum
abbrev pub section_count : List ℕ → ℕ
section_count bytes = half_at bytes 48

-- where the section header of an index is: they stand at e_shoff, 40 bytes each
abbrev pub header_place : List ℕ → ℕ → ℕ
header_place bytes index = word_at bytes 32 + 40 * index

-- the length
unfoldable pub size_fault : List ℕ → Option ElfFault
size_fault bytes = first_of (
    fault_if (nat_lt 16777216 (length bytes)) (Bad 16 16777216)
    ∷ fault_if (nat_lt (length bytes) 52) (Bad 1 (length bytes))
    ∷ [])

-- e_ident (7F 45 4C 46, ELFCLASS32, ELFDATA2LSB), e_type ET_REL, e_machine EM_RISCV, and e_flags without
-- EF_RISCV_RVC (1), EF_RISCV_FLOAT_ABI (6) and EF_RISCV_RVE (8) (RISC-V psABI, "File Header")
unfoldable pub kind_fault : List ℕ → Option ElfFault
kind_fault bytes = first_of (
    fault_if (not (word_at bytes 0 == 0x464C457F)) (Bad 2 0)
    ∷ fault_if (not (byte_at bytes 4 == 1)) (Bad 3 4)
    ∷ fault_if (not (byte_at bytes 5 == 1)) (Bad 4 5)
    ∷ fault_if (not (half_at bytes 16 == 1)) (Bad 5 16)
    ∷ fault_if (not (half_at bytes 18 == 243)) (Bad 6 18)
    ∷ fault_if (not (word_at bytes 36 % 16 == 0)) (Bad 7 36)
    ∷ [])

-- e_shentsize, e_shnum, and the section headers, which lie in the file
unfoldable pub table_fault : List ℕ → Option ElfFault
table_fault bytes = first_of (
    fault_if (not (half_at bytes 46 == 40)) (Bad 8 46)
    ∷ fault_if (section_count bytes == 0) (Bad 8 48)
    ∷ fault_if (nat_lt (length bytes) (header_place bytes (section_count bytes))) (Bad 8 32)
    ∷ [])

unfoldable pub header_fault : List ℕ → Option ElfFault
header_fault bytes = first_of (size_fault bytes ∷ kind_fault bytes ∷ table_fault bytes ∷ [])

-- what the checks establish: the file header and the section headers lie in the file
pub record HasTable (bytes : List ℕ) : Type 0 where
  pub short : length bytes ≤ 16777216
  pub long : 52 ≤ length bytes
  pub within : header_place bytes (section_count bytes) ≤ length bytes
