-- Two lists of the same elements, each in strict order, are one.
use Rattle.std.proofs.Common.{◌≡◌, ◌⊎◌, inl, inr, List, [], ◌∷◌, ◌++◌, Contains, refl, sym, ap, subst}
use Rattle.rt_base.proofs.Lists.{Contains-none, Contains-here, Contains-there, Contains-cons_cases}

module _ {X : Type 0} (Less : X → X → Type 0) (chain : (x y z : X) → Less x y → Less y z → Less x z) (strict : (x : X) → Less x x → ⊥) where
  -- each element is less than the next
  abbrev pub IsAscending : List X → Type 0
  IsAscending xs = (before after : List X) (a b : X) → xs ≡ before ++ a ∷ b ∷ after → Less a b

  pub tail_ascending : (x : X) (xs : List X) → IsAscending (x ∷ xs) → IsAscending xs
  tail_ascending x xs h before after a b e = h (x ∷ before) after a b (ap (λ ys. x ∷ ys) e)

  -- the first element is less than all others
  first_less : (x : X) (xs : List X) → IsAscending (x ∷ xs) → (y : X) → Contains xs y → Less x y
  first_less x [] h y c = absurd (Contains-none y c)
  first_less x (z ∷ xs) h y c = by (Contains-cons_cases z xs y c) (λ d. first_less z xs (tail_ascending x (z ∷ xs) h) y d)
    where
      by : (z ≡ y) ⊎ Contains xs y → (Contains xs y → Less z y) → Less x y
      by (inl e) rest = subst (Less x) e (h [] xs x z refl)
      by (inr d) rest = chain x z y (h [] xs x z refl) (rest d)

  abbrev HasAll : List X → List X → Type 0
  HasAll xs ys = (x : X) → Contains xs x → Contains ys x

  -- the tails have the same elements, where the heads are one
  tails : (x : X) (xs ys : List X) → IsAscending (x ∷ xs) → HasAll (x ∷ xs) (x ∷ ys) → HasAll xs ys
  tails x xs ys h all z c = by (Contains-cons_cases x ys z (all z (Contains-there x xs z c)))
    where
      by : (x ≡ z) ⊎ Contains ys z → Contains ys z
      by (inl e) = absurd (strict z (subst (λ y. Less y z) e (first_less x xs h z c)))
      by (inr d) = d

  one_head : (x y : X) (xs ys : List X) → IsAscending (x ∷ xs) → IsAscending (y ∷ ys) → HasAll (x ∷ xs) (y ∷ ys) →
      HasAll (y ∷ ys) (x ∷ xs) → x ≡ y
  one_head x y xs ys h k all back = by (Contains-cons_cases y ys x (all x (Contains-here x xs)))
      (Contains-cons_cases x xs y (back y (Contains-here y ys)))
    where
      by : (y ≡ x) ⊎ Contains ys x → (x ≡ y) ⊎ Contains xs y → x ≡ y
      by (inl e) o = sym e
      by (inr c) (inl e) = e
      by (inr c) (inr d) = absurd (strict x (chain x y x (first_less x xs h y d) (first_less y ys k x c)))

  pub one_list : (xs ys : List X) → IsAscending xs → IsAscending ys → HasAll xs ys → HasAll ys xs → xs ≡ ys
  one_list [] [] h k all back = refl
  one_list [] (y ∷ ys) h k all back = absurd (Contains-none y (back y (Contains-here y ys)))
  one_list (x ∷ xs) [] h k all back = absurd (Contains-none x (all x (Contains-here x xs)))
  one_list (x ∷ xs) (y ∷ ys) h k all back =
      let e : x ≡ y = one_head x y xs ys h k all back in
      let k' : IsAscending (x ∷ ys) = subst (λ z. IsAscending (z ∷ ys)) (sym e) k in
      let all' : HasAll (x ∷ xs) (x ∷ ys) = subst (λ z. HasAll (x ∷ xs) (z ∷ ys)) (sym e) all in
      let back' : HasAll (x ∷ ys) (x ∷ xs) = subst (λ z. HasAll (z ∷ ys) (x ∷ xs)) (sym e) back in
      let r : xs ≡ ys = one_list xs ys (tail_ascending x xs h) (tail_ascending x ys k') (tails x xs ys h all') (tails x ys xs k' back') in
      λ i. e i ∷ r i
