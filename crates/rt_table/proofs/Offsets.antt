-- Offsets of words of the stack from the stack pointer.
use Rattle.std.proofs.Common.{◌≡◌, ◌<◌, ◌+◌, ◌%◌, ◌+ℤ◌, ℕ, ℤ, pos, sym, ap, ◌∙◌, to_z, of_z, w32, FitsSigned, arith}
use Rattle.std.specs.Int.{cast_signed, int_wrap}
use Rattle.std.proofs.Math.Facts.{Fits-of_z}
use Rattle.std.proofs.lemmas.Int.{int_wrap-add_right, to_z-of_z, wrapping_add-bits}

signed-is : (k : ℕ) → k < 4294967296 → int_wrap w32 (pos k) ≡ cast_signed w32 k
unfolding int_wrap
signed-is k less = let e : k % 4294967296 ≡ k = omega arith in ap (cast_signed w32) e

-- a signed offset and an unsigned one are added without regard to overflow
pub stack-offset : (start : ℤ) (k : ℕ) → FitsSigned w32 start → k < 4294967296
    → to_z w32 ((of_z w32 (to_z w32 (of_z w32 start)) + k) % 4294967296) ≡ int_wrap w32 (start +ℤ pos k)
stack-offset start k fits less =
    ap (λ z. to_z w32 ((of_z w32 z + k) % 4294967296)) (to_z-of_z w32 start fits)
    ∙ wrapping_add-bits w32 (of_z w32 start) k (omega (arith, (Fits-of_z fits).fits)) less
    ∙ ap (λ z. int_wrap w32 (z +ℤ cast_signed w32 k)) (to_z-of_z w32 start fits)
    ∙ ap (λ z. int_wrap w32 (start +ℤ z)) (sym (signed-is k less))
    ∙ int_wrap-add_right w32 start (pos k)
