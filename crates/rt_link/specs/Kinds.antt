-- The types of relocations that code may have, by number (RISC-V psABI, "Relocations").
use Rattle.std.specs.Prelude.{ℕ, ◌==◌, ◌||◌, Bool, true, false, Option, Some, None, if◌then◌else◌}
use Rattle.rt_link.specs.declared.kind.Kind.{Kind}
use Rattle.rt_link.specs.declared.kind.Kind.TheVariants.{Passed, Jump, Call, PcrelHigh, High, Low, PcrelLow}
use Rattle.rt_link.specs.RelocationTypes.{R_RISCV_NONE, R_RISCV_32, R_RISCV_BRANCH, R_RISCV_JAL, R_RISCV_CALL, R_RISCV_CALL_PLT}
use Rattle.rt_link.specs.RelocationTypes.{R_RISCV_PCREL_HI20, R_RISCV_PCREL_LO12_I, R_RISCV_PCREL_LO12_S}
use Rattle.rt_link.specs.RelocationTypes.{R_RISCV_HI20, R_RISCV_LO12_I, R_RISCV_LO12_S, R_RISCV_ALIGN, R_RISCV_RELAX}

unfoldable pub kind_of : ℕ → Option Kind
kind_of number =
    if number == R_RISCV_BRANCH || number == R_RISCV_JAL then Some Jump else
    if number == R_RISCV_CALL || number == R_RISCV_CALL_PLT then Some Call else
    if number == R_RISCV_PCREL_HI20 then Some PcrelHigh else
    if number == R_RISCV_HI20 then Some High else
    if number == R_RISCV_LO12_I || number == R_RISCV_LO12_S then Some Low else
    if number == R_RISCV_PCREL_LO12_I || number == R_RISCV_PCREL_LO12_S then Some PcrelLow else
    if number == R_RISCV_NONE || number == R_RISCV_32 || number == R_RISCV_ALIGN || number == R_RISCV_RELAX then Some Passed else
    None

-- a type that has an effect
abbrev pub has_effect : Option Kind → Bool
has_effect None = false
has_effect (Some Passed) = false
has_effect (Some Jump) = true
has_effect (Some Call) = true
has_effect (Some PcrelHigh) = true
has_effect (Some High) = true
has_effect (Some Low) = true
has_effect (Some PcrelLow) = true

abbrev pub is_call : Option Kind → Bool
is_call (Some Call) = true
is_call other = false

abbrev pub is_pcrel_high : Option Kind → Bool
is_pcrel_high (Some PcrelHigh) = true
is_pcrel_high other = false

abbrev pub is_pcrel_low : Option Kind → Bool
is_pcrel_low (Some PcrelLow) = true
is_pcrel_low other = false
