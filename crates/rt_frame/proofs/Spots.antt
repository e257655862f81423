-- Ascending offsets, and a place among them that parts them.
use Rattle.std.proofs.Common.{◌≡◌, ◌<◌, ◌≤◌, ℕ, zero, suc, ℤ, Bool, true, false, not, ◌&&◌, ◌||◌, Some, None, List, [], ◌∷◌, length, refl, sym, subst, ◌⊎◌, inl, inr, pos, ◌-◌, arith}
use Rattle.std.specs.Prelude.{int_lt, int_le, slice_index_or, ◌<ℤ◌}
use Rattle.std.specs.List.{list_any}
use Rattle.std.specs.List.Sorted.{IsPartitionedBy, IsPartitionPoint}
use Rattle.std.proofs.lemmas.Bool.{cases_eq}
use Rattle.std.proofs.lemmas.Int.{ints}
use Rattle.rt_frame.specs.Frames.{AreAscending, greatest_upto, is_from_to}

-- none is at or below k
pub none_upto : (k : ℤ) (xs : List ℤ) → ((j : ℕ) (d : ℤ) → j < length xs → int_lt k (slice_index_or xs j d) ≡ true) → greatest_upto k xs ≡ None
none_upto k [] above = refl
none_upto k (a ∷ xs) above =
    let here : int_lt k a ≡ true = above 0 a (omega arith) in
    rw here (none_upto k xs (λ j d less. above (suc j) d (omega arith)))

-- the last one that is
pub last_upto : (k : ℤ) (xs : List ℤ) (q : ℕ) → q < length xs
    → ((j : ℕ) (d : ℤ) → j ≤ q → int_lt k (slice_index_or xs j d) ≡ false)
    → ((j : ℕ) (d : ℤ) → q < j → j < length xs → int_lt k (slice_index_or xs j d) ≡ true)
    → (d : ℤ) → greatest_upto k xs ≡ Some (slice_index_or xs q d)
last_upto k [] q less upto above d = absurd (omega arith)
last_upto k (a ∷ xs) zero less upto above d =
    let here : int_lt k a ≡ false = upto 0 a (omega arith) in
    let rest : greatest_upto k xs ≡ None = none_upto k xs (λ j d below. above (suc j) d (omega arith) (omega arith)) in
    rw here (rw rest refl)
last_upto k (a ∷ xs) (suc q) less upto above d =
    let here : int_lt k a ≡ false = upto 0 a (omega arith) in
    let rest : greatest_upto k xs ≡ Some (slice_index_or xs q d) = last_upto k xs q (omega arith) (λ j d below. upto (suc j) d (omega arith)) (λ j d over below. above (suc j) d (omega arith) (omega arith)) d in
    rw here (rw rest refl)

-- none is at or above a
pub none_from : (a k : ℤ) (xs : List ℤ) → ((j : ℕ) (d : ℤ) → j < length xs → int_lt (slice_index_or xs j d) a ≡ true) → list_any (is_from_to a k) xs ≡ false
none_from a k [] below = refl
none_from a k (x ∷ xs) below =
    let here : int_lt x a ≡ true = below 0 x (omega arith) in
    rw here (none_from a k xs (λ j d less. below (suc j) d (omega arith)))

-- none behind one that is above k
none_behind : (a k x : ℤ) (xs : List ℤ) → int_lt k x ≡ true → ((j : ℕ) (d : ℤ) → j < length xs → x <ℤ slice_index_or xs j d) → list_any (is_from_to a k) xs ≡ false
none_behind a k x [] over ascending = refl
none_behind a k x (y ∷ xs) over ascending =
    let above : x <ℤ y = ascending 0 y (omega arith) in
    let here : int_lt k y ≡ true = grind (arith, ints) in
    let rest : list_any (is_from_to a k) xs ≡ false = none_behind a k x xs over (λ j d less. ascending (suc j) d (omega arith)) in
    rw here (none (not (int_lt y a)) rest)
  where
    none : (b : Bool) {c : Bool} → c ≡ false → ((b && false) || c) ≡ false
    none true e = e
    none false e = e

-- whether the first that isn't below a isn't above k
pub first_from : (a k : ℤ) (xs : List ℤ) (p : ℕ) → p < length xs
    → ((j : ℕ) (d : ℤ) → j < p → int_lt (slice_index_or xs j d) a ≡ true)
    → ((d : ℤ) → int_lt (slice_index_or xs p d) a ≡ false)
    → AreAscending xs
    → (d : ℤ) → list_any (is_from_to a k) xs ≡ int_le (slice_index_or xs p d) k
first_from a k [] p less below from ascending d = absurd (omega arith)
first_from a k (x ∷ xs) zero less below from ascending d = by (int_lt k x) refl
  where
    here : int_lt x a ≡ false
    here = from x

    by : (b : Bool) → int_lt k x ≡ b → list_any (is_from_to a k) (x ∷ xs) ≡ int_le x k
    by true over =
        let rest : list_any (is_from_to a k) xs ≡ false = none_behind a k x xs over (λ j e inside. ascending 0 (suc j) e (omega arith) (omega arith)) in
        let not_at : int_le x k ≡ false = grind (arith, ints) in
        rw here (rw over (rw not_at rest))
    by false over =
        let at : int_le x k ≡ true = grind (arith, ints) in
        rw here (rw over (rw at refl))
first_from a k (x ∷ xs) (suc p) less below from ascending d =
    let here : int_lt x a ≡ true = below 0 x (omega arith) in
    rw here (first_from a k xs p (omega arith) (λ j d inside. below (suc j) d (omega arith)) from (λ i j e under inside. ascending (suc i) (suc j) e (omega arith) (omega arith)) d)

-- offsets up to k stand before those above it
pub parted_upto : (k : ℤ) (xs : List ℤ) → AreAscending xs → IsPartitionedBy (λ y. int_le y k) xs
parted_upto k xs ascending i j d upto less at = by (cases_eq i j)
  where
    by : (i ≡ j) ⊎ (i ≡ j → ⊥) → int_le (slice_index_or xs i d) k ≡ true
    by (inl e) = subst (λ n. int_le (slice_index_or xs n d) k ≡ true) (sym e) at
    by (inr other) = let below : slice_index_or xs i d <ℤ slice_index_or xs j d = ascending i j d (omega arith) less in grind (arith, ints)

-- offsets below a stand before the others
pub parted_from : (a : ℤ) (xs : List ℤ) → AreAscending xs → IsPartitionedBy (λ y. int_lt y a) xs
parted_from a xs ascending i j d upto less at = by (cases_eq i j)
  where
    by : (i ≡ j) ⊎ (i ≡ j → ⊥) → int_lt (slice_index_or xs i d) a ≡ true
    by (inl e) = subst (λ n. int_lt (slice_index_or xs n d) a ≡ true) (sym e) at
    by (inr other) = let below : slice_index_or xs i d <ℤ slice_index_or xs j d = ascending i j d (omega arith) less in grind (arith, ints)

module _ (k : ℤ) (xs : List ℤ) (p : ℕ) (point : IsPartitionPoint (λ y. int_le y k ≡ true) (λ y. int_le y k ≡ false) xs p) where
  above : (j : ℕ) (d : ℤ) → p ≤ j → j < length xs → int_lt k (slice_index_or xs j d) ≡ true
  above j d over less = let at = point.1 j d over less in grind (arith, ints)

  pub greatest_none : p ≡ 0 → greatest_upto k xs ≡ None
  greatest_none none = none_upto k xs (λ j d less. above j d (omega arith) less)

  pub greatest_some : (p ≡ 0 → ⊥) → p ≤ length xs → greatest_upto k xs ≡ Some (slice_index_or xs (p - 1) (pos 0))
  greatest_some some bound = last_upto k xs (p - 1) (omega arith) upto (λ j d over less. above j d (omega arith) less) (pos 0)
    where
      upto : (j : ℕ) (d : ℤ) → j ≤ p - 1 → int_lt k (slice_index_or xs j d) ≡ false
      upto j d under = let at = point.0 j d (omega arith) (omega arith) in grind (arith, ints)

module _ (a k : ℤ) (xs : List ℤ) (ascending : AreAscending xs) (p : ℕ) (point : IsPartitionPoint (λ y. int_lt y a ≡ true) (λ y. int_lt y a ≡ false) xs p) where
  pub none_between : p ≡ length xs → list_any (is_from_to a k) xs ≡ false
  none_between all = none_from a k xs (λ j d less. point.0 j d (omega arith) (omega arith))

  pub first_between : (p ≡ length xs → ⊥) → p ≤ length xs → list_any (is_from_to a k) xs ≡ int_le (slice_index_or xs p (pos 0)) k
  first_between some bound =
      first_from a k xs p (omega arith) (λ j d inside. point.0 j d (omega arith) inside) (λ d. point.1 p d (omega arith) (omega arith)) ascending (pos 0)
