-- Where names end.
use Rattle.std.proofs.Common.{◌≡◌, ℕ, ◌-◌, ◌≤◌, inl, inr, ◌==◌, false, List, [], ◌∷◌, take, drop, length, slice_index, refl, ap, ◌∙◌, arith}
use Rattle.std.specs.List.{slice_range}
use Rattle.std.proofs.lemmas.List.{length-drop}
use Rattle.rt_elf.specs.Names.{name_at, up_to_zero, AreEnds}
use Rattle.std.proofs.lemmas.Bool.{cases_Bool}

up_to_zero-le : (xs : List ℕ) → length (up_to_zero xs) ≤ length xs
up_to_zero-le [] = omega arith
up_to_zero-le (x ∷ xs) = elim (cases_Bool (x == 0)) [
  | inl e ↦ rw e (omega arith)
  | inr e ↦ rw e (let rest = up_to_zero-le xs in omega (arith, rest))
]

take-up_to_zero : (xs : List ℕ) → take (length (up_to_zero xs)) xs ≡ up_to_zero xs
take-up_to_zero [] = refl
take-up_to_zero (x ∷ xs) = elim (cases_Bool (x == 0)) [
  | inl e ↦ rw e refl
  | inr e ↦ rw e (ap (λ (ys : List ℕ). x ∷ ys) (take-up_to_zero xs))
]

-- a name ends in its table
pub end-within : (strings ends : List ℕ) (offset : ℕ) → AreEnds strings ends → offset ≤ length strings → slice_index ends offset ≤ length strings
end-within strings ends offset are there =
    let at = are.each offset there in
    let few = up_to_zero-le (drop offset strings) in
    let size = length-drop offset strings in
    omega (arith, at, few, size)

-- a name is the range up to its end
pub range-name : (strings ends : List ℕ) (offset : ℕ) → AreEnds strings ends → offset ≤ length strings → (offset == 0) ≡ false
    → slice_range strings offset (slice_index ends offset) ≡ name_at strings offset
range-name strings ends offset are there past =
    let size : slice_index ends offset - offset ≡ length (up_to_zero (drop offset strings)) = let at = are.each offset there in omega (arith, at) in
    rw past (ap (λ (n : ℕ). take n (drop offset strings)) size ∙ take-up_to_zero (drop offset strings))
