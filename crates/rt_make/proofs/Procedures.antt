-- The object of at most 2,000 procedures is short.
use Rattle.std.proofs.Common.{◌≡◌, ℕ, zero, suc, ◌+◌, ◌*◌, ◌<◌, ◌≤◌, ◌^◌, ◌++◌, [], ◌∷◌, All, length, refl, arith, length-append}
use Rattle.std.specs.List.{flat_map}
use Rattle.std.specs.Fmt.{decimal}
use Rattle.std.specs.Prelude.{codes}
use Rattle.std.proofs.lemmas.Fmt.{length-decimal-le}
use Rattle.std.proofs.lemmas.List.{flat_map_more}
use Rattle.std.proofs.lemmas.List.Elements.{All-nil, All-cons}
use Rattle.rt_base.specs.First.{entries}
use Rattle.rt_elf.proofs.Lists.{entries-more, length-entries}
use Rattle.rt_make.specs.Packed.{FitsSymbol, name_string, object_length, string_table}
use Rattle.rt_make.specs.Made.{made_code, made_procedure, made_symbol, made_symbols}

length-name : (i : ℕ) → i < 2000 → length (name_string (codes "p" ++ decimal i)) ≤ 6
length-name i h =
    let digits : length (decimal i) ≤ 4 = length-decimal-le 4 i (omega arith) (omega arith) (omega arith) in
    let end = length-append (decimal i) (0 ∷ []) in
    omega arith

length-names : (i n : ℕ) → i + n ≤ 2000 → length (flat_map (λ symbol. name_string symbol.name) (entries made_symbol i n)) ≤ 6 * n
length-names i zero h = omega arith
length-names i (suc n) h =
    let rest = length-names (i + 1) n (omega arith) in
    let first = length-name i (omega arith) in
    let both = length-append (name_string (codes "p" ++ decimal i)) (flat_map (λ symbol. name_string symbol.name) (entries made_symbol (i + 1) n)) in
    omega arith

length-code : (i n : ℕ) → length (flat_map made_procedure (entries (λ k. k) i n)) ≡ 7 * n
length-code i zero = refl
length-code i (suc n) =
    let rest = length-code (i + 1) n in
    omega arith

-- so it can be packed
pub made_length : (n : ℕ) → n ≤ 2000 → object_length (made_code n) (made_symbols n) [] < 2 ^ 32
made_length n h =
    let code = length-code 0 n in
    let count = length-entries made_symbol 0 n in
    let names = length-names 0 n (omega arith) in
    omega arith

symbols_fit : (i n : ℕ) → All FitsSymbol (entries made_symbol i n)
symbols_fit i zero = All-nil FitsSymbol
symbols_fit i (suc n) = All-cons FitsSymbol (made_symbol i) (entries made_symbol (i + 1) n) (omega arith, omega arith) (symbols_fit (i + 1) n)

pub made_symbols-fit : (n : ℕ) → All FitsSymbol (made_symbols n)
made_symbols-fit n = symbols_fit 0 n

-- one procedure more
pub made_code-more : (n : ℕ) → made_code (n + 1) ≡ made_code n ++ made_procedure n
made_code-more n = rw entries-more (rw (← flat_map_more made_procedure [] (entries (λ k. k) 0 n) n) refl)
