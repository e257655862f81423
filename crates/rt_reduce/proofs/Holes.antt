-- Lines that went and weren't taken out yet.
use Rattle.std.proofs.Common.{◌≡◌, ℕ, zero, suc, ◌+◌, ◌<◌, List, [], ◌∷◌, length, get_or, refl, ap, subst, arith}
use Rattle.std.proofs.lemmas.List.{take-append-drop}
use Rattle.std.specs.List.{remove, remove_range}

wider : {X : Type 0} (xs : List X) (i j : ℕ) → i < j → i < length xs → remove_range xs i j ≡ remove (remove_range xs (suc i) j) i
wider [] i j h within = absurd (omega (arith, within))
wider (x ∷ xs) i zero h within = absurd (omega (arith, h))
wider (x ∷ xs) zero (suc j) h within = refl
wider (x ∷ xs) (suc i) (suc j) h within = ap (λ ys. x ∷ ys) (wider xs i j (omega (arith, h)) (omega (arith, within)))

-- one more
pub hole_wider : {X : Type 0} (xs : List X) (i j : ℕ) → i < j → i < length xs → remove_range xs i j ≡ remove (remove_range xs (i + 1) j) i
hole_wider xs i j h within =
    let e : suc i ≡ i + 1 = omega arith in subst (λ k. remove_range xs i j ≡ remove (remove_range xs k j) i) e (wider xs i j h within)

-- none
pub no_hole : {X : Type 0} (xs : List X) (i : ℕ) → remove_range xs i i ≡ xs
no_hole xs i = take-append-drop i xs

before : {X : Type 0} (xs : List X) (i j : ℕ) (d : X) → i < j → i < length xs → get_or (remove_range xs (suc i) j) i d ≡ get_or xs i d
before [] i j d h within = absurd (omega (arith, within))
before (x ∷ xs) i zero d h within = absurd (omega (arith, h))
before (x ∷ xs) zero (suc j) d h within = refl
before (x ∷ xs) (suc i) (suc j) d h within = before xs i j d (omega (arith, h)) (omega (arith, within))

-- what stands before them
pub before_hole : {X : Type 0} (xs : List X) (i j : ℕ) (d : X) → i < j → i < length xs → get_or (remove_range xs (i + 1) j) i d ≡ get_or xs i d
before_hole xs i j d h within =
    let e : suc i ≡ i + 1 = omega arith in subst (λ k. get_or (remove_range xs k j) i d ≡ get_or xs i d) e (before xs i j d h within)

above : {X : Type 0} (xs : List X) (i j : ℕ) → i < j → i < length xs → i < length (remove_range xs (suc i) j)
above [] i j h within = absurd (omega (arith, within))
above (x ∷ xs) i zero h within = absurd (omega (arith, h))
above (x ∷ xs) zero (suc j) h within = omega arith
above (x ∷ xs) (suc i) (suc j) h within =
    let r : i < length (remove_range xs (suc i) j) = above xs i j (omega (arith, h)) (omega (arith, within)) in omega (arith, r)

-- that stands there
pub above_hole : {X : Type 0} (xs : List X) (i j : ℕ) → i < j → i < length xs → i < length (remove_range xs (i + 1) j)
above_hole xs i j h within =
    let e : suc i ≡ i + 1 = omega arith in subst (λ k. i < length (remove_range xs k j)) e (above xs i j h within)
