-- Numbers in binary digits.
use Rattle.std.proofs.Common.{◌≡◌, ℕ, zero, suc, ◌+◌, ◌*◌, ◌<◌, ◌≤◌, List, [], ◌∷◌, ◌++◌, Bool, true, false, length, get_or, drop, refl, ap, sym, ◌∙◌, arith, add-one}
use Rattle.rt_sat.specs.Counts.{digit_of, value_of}

-- the number of digits that go on with a number
abbrev pub value_onto : List Bool → ℕ → ℕ
value_onto [] t = t
value_onto (b ∷ digits) t = digit_of b + 2 * value_onto digits t

pub value_onto-push : (s : List Bool) (b : Bool) (t : ℕ) → value_onto (s ++ b ∷ []) t ≡ value_onto s (digit_of b + 2 * t)
value_onto-push [] b t = refl
value_onto-push (c ∷ s) b t = ap (λ n. digit_of c + 2 * n) (value_onto-push s b t)

pub value_onto-none : (s : List Bool) → value_onto s 0 ≡ value_of s
value_onto-none [] = refl
value_onto-none (c ∷ s) = ap (λ n. digit_of c + 2 * n) (value_onto-none s)

value-drop_suc : (a : List Bool) (i : ℕ) → value_of (drop i a) ≡ digit_of (get_or a i false) + 2 * value_of (drop (suc i) a)
value-drop_suc [] zero = refl
value-drop_suc [] (suc i) = refl
value-drop_suc (b ∷ a) zero = refl
value-drop_suc (b ∷ a) (suc i) = value-drop_suc a i

pub value-drop : (a : List Bool) (i : ℕ) → value_of (drop i a) ≡ digit_of (get_or a i false) + 2 * value_of (drop (i + 1) a)
value-drop a i = value-drop_suc a i ∙ ap (λ n. digit_of (get_or a i false) + 2 * value_of (drop n a)) (sym (add-one i))

pub value-past : (a : List Bool) (i : ℕ) → length a ≤ i → value_of (drop i a) ≡ 0
value-past [] zero h = refl
value-past [] (suc i) h = refl
value-past (b ∷ a) zero h = absurd (omega arith)
value-past (b ∷ a) (suc i) h = value-past a i (omega arith)

pub digit-small : (b : Bool) → digit_of b ≤ 1
digit-small true = omega arith
digit-small false = omega arith

suffix-small : (a : List Bool) (j : ℕ) → value_of (drop j a) ≤ value_of a
suffix-small a zero = omega arith
suffix-small [] (suc j) = omega arith
suffix-small (b ∷ a) (suc j) = omega (arith, suffix-small a j)

-- what is less in the high digits is less
pub less_from : (a b : List Bool) (j : ℕ) → value_of (drop j a) < value_of (drop j b) → value_of a < value_of b
less_from a b zero h = h
less_from [] [] (suc j) h = absurd (omega arith)
less_from [] (y ∷ b) (suc j) h = omega (arith, h, suffix-small b j)
less_from (x ∷ a) [] (suc j) h = absurd (omega arith)
less_from (x ∷ a) (y ∷ b) (suc j) h = omega (arith, less_from a b j h, digit-small x, digit-small y)

pub some_digit : (a : List Bool) (i : ℕ) → get_or a i false ≡ true → 1 ≤ value_of a
some_digit [] zero e = absurd (cc)
some_digit [] (suc i) e = absurd (cc)
some_digit (b ∷ a) zero e = rw e (omega arith)
some_digit (b ∷ a) (suc i) e = omega (arith, some_digit a i e)

pub no_digit : (a : List Bool) → ((k : ℕ) → k < length a → get_or a k false ≡ false) → value_of a ≡ 0
no_digit [] f = refl
no_digit (b ∷ a) f =
    let e : b ≡ false = f 0 (omega arith) in
    let r : value_of a ≡ 0 = no_digit a (λ k h. f (suc k) (omega arith)) in
    rw (e, r) refl
