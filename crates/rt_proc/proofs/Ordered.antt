-- Lists in an order that never goes both ways.
use Rattle.std.proofs.Common.{◌≡◌, ◌↔◌, ◌⊎◌, inl, inr, zero, suc, List, [], ◌∷◌, Contains, AllPairs, refl, sym, subst, ◌∙◌, arith}
use Rattle.rt_base.proofs.Lists.{Contains-none, Contains-here, Contains-there, Contains-cons_cases}

-- of a list in an order the first comes before the others
AllPairs-head : {X : Type 0} (R : X → X → Type 0) (x : X) (xs : List X) → AllPairs R (x ∷ xs) → (y : X) → Contains xs y → R x y
AllPairs-head R x xs pairs y (k, less, e) = subst (R x) e (pairs 0 (suc k) y (omega arith) (omega arith))

AllPairs-tail : {X : Type 0} (R : X → X → Type 0) (x : X) (xs : List X) → AllPairs R (x ∷ xs) → AllPairs R xs
AllPairs-tail R x xs pairs i j d before less = pairs (suc i) (suc j) d (omega arith) (omega arith)

-- two lists in an order that never goes both ways are the same where their elements are
module _ {X : Type 0} (R : X → X → Type 0) (one_way : (x y : X) → R x y → R y x → ⊥) where
  first_same : (x y : X) (xs ys : List X) → AllPairs R (x ∷ xs) → AllPairs R (y ∷ ys)
      → Contains (y ∷ ys) x → Contains (x ∷ xs) y → x ≡ y
  first_same x y xs ys a b there back = by (Contains-cons_cases y ys x there) (Contains-cons_cases x xs y back)
    where
      by : (y ≡ x) ⊎ Contains ys x → (x ≡ y) ⊎ Contains xs y → x ≡ y
      by (inl e) other = sym e
      by (inr in_ys) (inl e) = e
      by (inr in_ys) (inr in_xs) = absurd (one_way x y (AllPairs-head R x xs a y in_xs) (AllPairs-head R y ys b x in_ys))

  rest_within : (x y : X) (xs ys : List X) → x ≡ y → AllPairs R (x ∷ xs)
      → ((z : X) → Contains (x ∷ xs) z → Contains (y ∷ ys) z) → (z : X) → Contains xs z → Contains ys z
  rest_within x y xs ys e a to z in_xs = by (Contains-cons_cases y ys z (to z (Contains-there x xs z in_xs)))
    where
      by : (y ≡ z) ⊎ Contains ys z → Contains ys z
      by (inl f) =
          let after : R x z = AllPairs-head R x xs a z in_xs in
          let same : z ≡ x = sym f ∙ sym e in
          absurd (one_way x x (subst (R x) same after) (subst (R x) same after))
      by (inr in_ys) = in_ys

  pub ordered_same : (xs ys : List X) → AllPairs R xs → AllPairs R ys
      → ((z : X) → Contains xs z → Contains ys z) → ((z : X) → Contains ys z → Contains xs z) → xs ≡ ys
  ordered_same [] [] a b to from = refl
  ordered_same [] (y ∷ ys) a b to from = absurd (Contains-none y (from y (Contains-here y ys)))
  ordered_same (x ∷ xs) [] a b to from = absurd (Contains-none x (to x (Contains-here x xs)))
  ordered_same (x ∷ xs) (y ∷ ys) a b to from =
      let e : x ≡ y = first_same x y xs ys a b (to x (Contains-here x xs)) (from y (Contains-here y ys)) in
      let rest : xs ≡ ys =
      ordered_same xs ys (AllPairs-tail R x xs a) (AllPairs-tail R y ys b) (rest_within x y xs ys e a to) (rest_within y x ys xs (sym e) b from) in
      λ i. e i ∷ rest i

-- a set has one list in such an order
pub one_ordered : {X : Type 0} (R : X → X → Type 0) → ((x y : X) → R x y → R y x → ⊥) → (P : X → Type 0) (xs ys : List X)
    → AllPairs R xs → ((z : X) → Contains xs z ↔ P z) → AllPairs R ys → ((z : X) → Contains ys z ↔ P z) → xs ≡ ys
one_ordered R one_way P xs ys a same b same' =
    ordered_same R one_way xs ys a b (λ z h. (same' z).1 ((same z).0 h)) (λ z h. (same z).1 ((same' z).0 h))
