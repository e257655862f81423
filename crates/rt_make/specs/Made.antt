-- The test object of a number of procedures.
use Rattle.std.specs.Prelude.{ℕ, ◌+◌, ◌-◌, ◌*◌, ◌/◌, ◌%◌, ◌^◌, ◌==◌, List, [], ◌∷◌, ◌++◌, codes, decimal, if◌then◌else◌}
use Rattle.std.specs.List.{flat_map}
use Rattle.rt_base.specs.First.{entries}
use Rattle.rt_elf.specs.declared.symbol.Symbol.{Symbol}
use Rattle.rt_make.specs.Packed.{packed}

-- the procedure that one calls: each tenth calls itself, any other the one of half the number before its own
abbrev pub made_callee : ℕ → ℕ
made_callee i = if i % 10 == 9 then i else (i - 1) / 2

-- the word of `jal ra` (RISC-V ISA, J format) by an offset modulo 2^21
abbrev pub jal_word : ℕ → ℕ
jal_word m = (m / 2 ^ 20 % 2) * 2 ^ 31 + (m / 2 % 2 ^ 10) * 2 ^ 21 + (m / 2 ^ 11 % 2) * 2 ^ 20 + (m / 2 ^ 12 % 2 ^ 8) * 2 ^ 12 + 0xEF

-- the fourth word of a procedure: `jal ra` to the one that it calls, of which the first calls none
abbrev pub call_word : ℕ → ℕ
call_word i = if i == 0 then 0x13 else jal_word (2 ^ 21 - (28 * (i - made_callee i) + 12))

-- the words of a procedure
abbrev pub made_procedure : ℕ → List ℕ
made_procedure i =
    0xFF010113 ∷ 0x00112623 ∷ (0x00052503 + 4 * (i % 8) * 2 ^ 20) ∷ call_word i ∷ 0x00C12083 ∷ 0x01010113 ∷ 0x00008067 ∷ []

-- its symbol, a global function
abbrev pub made_symbol : ℕ → Symbol
made_symbol i = record { name = codes "p" ++ decimal i; value = 28 * i; size = 28; bind = 1; kind = 2; section = 1 }

-- the code and the symbols of so many procedures
abbrev pub made_code : ℕ → List ℕ
made_code n = flat_map made_procedure (entries (λ i. i) 0 n)

abbrev pub made_symbols : ℕ → List Symbol
made_symbols n = entries made_symbol 0 n

-- the object of so many procedures, which has no relocations
abbrev pub made : ℕ → List ℕ
made n = packed (made_code n) (made_symbols n) []
