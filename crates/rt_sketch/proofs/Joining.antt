-- Joins and meets, one bound after another.
use Rattle.std.proofs.Common.{◌≡◌, ℕ, ◌+◌, ◌<◌, ◌≤◌, ◌⊎◌, inl, inr, List, [], ◌∷◌, Contains, length, get_or, take, drop, refl, sym, subst}
use Rattle.std.proofs.lemmas.List.{take-append-drop, take_all, take_more}
use Rattle.std.proofs.lemmas.List.Elements.{Contains-append_left, Contains-push, Contains-push_cases}
use Rattle.rt_base.proofs.Lists.{Contains-none}
use Rattle.rt_lattice.specs.Lattices.{IsBelow, IsLattice, NamedOrder, size_of}
use Rattle.rt_lattice.specs.Bounds.{IsBottom, IsGreatestLower, IsLeastUpper, IsTop}
use Rattle.rt_ways.specs.Arcs.{IsInRow}
use Rattle.rt_sketch.specs.Bounds.{IsBoundOf, IsGreatestUnder, IsLeastOver}

module _ (R : ℕ → ℕ → Type 0) (count : ℕ) (trans : (x y z : ℕ) → x < count → y < count → z < count → R x y → R y z → R x z) (self : (x : ℕ) → R x x) where
  -- of none, and of one
  pub least_none : (P : ℕ → Type 0) (c : ℕ) → ((k : ℕ) → P k → ⊥) → IsBottom R count c → IsLeastOver R count P c
  least_none P c none bottom = record { within = bottom.within; above = λ k p. absurd (none k p); least = λ u h all. bottom.below u h }

  pub least_one : (P : ℕ → Type 0) (c : ℕ) → c < count → P c → ((k : ℕ) → P k → k ≡ c) → IsLeastOver R count P c
  least_one P c h here one = record { within = h; above = λ k p. subst (λ z. R z c) (sym (one k p)) (self c); least = λ u k all. all c here }

  -- the same in other words
  pub least_as : (P Q : ℕ → Type 0) (c : ℕ) → ((k : ℕ) → P k → Q k) → ((k : ℕ) → Q k → P k) → IsLeastOver R count P c → IsLeastOver R count Q c
  least_as P Q c to from least = record { within = least.within; above = λ k q. least.above k (from k q); least = λ u h all. least.least u h (λ k p. all k (to k p)) }

  -- one more
  pub least_more : (P Q : ℕ → Type 0) (b k c : ℕ) → ((j : ℕ) → P j → j < count) → k < count → ((j : ℕ) → Q j → P j ⊎ (j ≡ k)) → ((j : ℕ) → P j → Q j) → Q k →
      IsLeastOver R count P b → IsLeastUpper R count b k c → IsLeastOver R count Q c
  least_more P Q b k c small h cases left right least upper = record {
    within = upper.within;
    above = λ j q. (elim (cases j q) [
      | inl p ↦ trans j b c (small j p) least.within upper.within (least.above j p) upper.first
      | inr e ↦ subst (λ z. R z c) (sym e) upper.second
    ]);
    least = λ u less all. upper.least u less (least.least u less (λ j p. all j (left j p))) (all k right);
  }

  -- all over a least one
  pub least_join : (P Q S : ℕ → Type 0) (b c : ℕ) → ((j : ℕ) → P j → j < count) → ((j : ℕ) → S j → P j ⊎ Q j) → ((j : ℕ) → P j → S j) → ((j : ℕ) → Q j → S j) →
      IsLeastOver R count P b → IsLeastOver R count (λ k. (k ≡ b) ⊎ Q k) c → IsLeastOver R count S c
  least_join P Q S b c small cases left right least more = record {
    within = more.within;
    above = λ j s. (elim (cases j s) [
      | inl p ↦ trans j b c (small j p) least.within more.within (least.above j p) (more.above b (inl refl))
      | inr q ↦ more.above j (inr q)
    ]);
    least = λ u h all. more.least u h (λ j p. (elim p [
      | inl e ↦ subst (λ z. R z u) (sym e) (least.least u h (λ i q. all i (left i q)))
      | inr q ↦ all j (right j q)
    ]));
  }

  pub greatest_none : (P : ℕ → Type 0) (c : ℕ) → ((k : ℕ) → P k → ⊥) → IsTop R count c → IsGreatestUnder R count P c
  greatest_none P c none top = record { within = top.within; below = λ k p. absurd (none k p); greatest = λ u h all. top.above u h }

  pub greatest_one : (P : ℕ → Type 0) (c : ℕ) → c < count → P c → ((k : ℕ) → P k → k ≡ c) → IsGreatestUnder R count P c
  greatest_one P c h here one = record { within = h; below = λ k p. subst (R c) (sym (one k p)) (self c); greatest = λ u k all. all c here }

  pub greatest_as : (P Q : ℕ → Type 0) (c : ℕ) → ((k : ℕ) → P k → Q k) → ((k : ℕ) → Q k → P k) → IsGreatestUnder R count P c → IsGreatestUnder R count Q c
  greatest_as P Q c to from greatest = record { within = greatest.within; below = λ k q. greatest.below k (from k q); greatest = λ u h all. greatest.greatest u h (λ k p. all k (to k p)) }

  pub greatest_more : (P Q : ℕ → Type 0) (b k c : ℕ) → ((j : ℕ) → P j → j < count) → k < count → ((j : ℕ) → Q j → P j ⊎ (j ≡ k)) → ((j : ℕ) → P j → Q j) → Q k →
      IsGreatestUnder R count P b → IsGreatestLower R count b k c → IsGreatestUnder R count Q c
  greatest_more P Q b k c small h cases left right greatest lower = record {
    within = lower.within;
    below = λ j q. (elim (cases j q) [
      | inl p ↦ trans c b j lower.within greatest.within (small j p) lower.first (greatest.below j p)
      | inr e ↦ subst (R c) (sym e) lower.second
    ]);
    greatest = λ u less all. lower.greatest u less (greatest.greatest u less (λ j p. all j (left j p))) (all k right);
  }

  pub greatest_join : (P Q S : ℕ → Type 0) (b c : ℕ) → ((j : ℕ) → P j → j < count) → ((j : ℕ) → S j → P j ⊎ Q j) → ((j : ℕ) → P j → S j) → ((j : ℕ) → Q j → S j) →
      IsGreatestUnder R count P b → IsGreatestUnder R count (λ k. (k ≡ b) ⊎ Q k) c → IsGreatestUnder R count S c
  greatest_join P Q S b c small cases left right greatest more = record {
    within = more.within;
    below = λ j s. (elim (cases j s) [
      | inl p ↦ trans c b j more.within greatest.within (small j p) (more.below b (inl refl)) (greatest.below j p)
      | inr q ↦ more.below j (inr q)
    ]);
    greatest = λ u h all. more.greatest u h (λ j p. (elim p [
      | inl e ↦ subst (R u) (sym e) (greatest.greatest u h (λ i q. all i (left i q)))
      | inr q ↦ all j (right j q)
    ]));
  }

-- members of the first ones of a list
pub first_none : (first : ℕ) (row : List ℕ) → (k : ℕ) → (k ≡ first) ⊎ Contains (take 0 row) k → k ≡ first
first_none first row k (inl e) = e
first_none first row k (inr c) = absurd (Contains-none k c)

pub take_cases : (row : List ℕ) (i : ℕ) → i < length row → (k : ℕ) → Contains (take (i + 1) row) k → Contains (take i row) k ⊎ (k ≡ get_or row i 0)
take_cases row i h k c = elim (Contains-push_cases (take i row) (get_or row i 0) k (subst (λ xs. Contains xs k) (take_more row i 0 h) c)) [ inl d ↦ inl d | inr e ↦ inr (sym e) ]

pub take_left : (row : List ℕ) (i : ℕ) → i < length row → (k : ℕ) → Contains (take i row) k → Contains (take (i + 1) row) k
take_left row i h k c = subst (λ xs. Contains xs k) (sym (take_more row i 0 h)) (Contains-append_left (take i row) (get_or row i 0 ∷ []) k c)

pub take_here : (row : List ℕ) (i : ℕ) → i < length row → Contains (take (i + 1) row) (get_or row i 0)
take_here row i h = subst (λ xs. Contains xs (get_or row i 0)) (sym (take_more row i 0 h)) (Contains-push (take i row) (get_or row i 0))

pub take_member : (row : List ℕ) (i k : ℕ) → Contains (take i row) k → Contains row k
take_member row i k c = subst (λ xs. Contains xs k) (take-append-drop i row) (Contains-append_left (take i row) (drop i row) k c)

pub bound_cases : (rows : List (List ℕ)) (numbers : List ℕ) (i : ℕ) (row : List ℕ) → i < length numbers → row ≡ get_or rows (get_or numbers i 0) [] → (k : ℕ) → IsBoundOf rows (take (i + 1) numbers) k →
    IsBoundOf rows (take i numbers) k ⊎ Contains row k
bound_cases rows numbers i row h e k b = elim (take_cases numbers i h b.0 b.1) [ inl c ↦ inl (b.0, c, b.2) | inr f ↦ inr (subst (λ xs. Contains xs k) (sym e) (subst (λ n. IsInRow rows n k) f b.2)) ]

pub bound_left : (rows : List (List ℕ)) (numbers : List ℕ) (i : ℕ) → i < length numbers → (k : ℕ) → IsBoundOf rows (take i numbers) k → IsBoundOf rows (take (i + 1) numbers) k
bound_left rows numbers i h k b = (b.0, take_left numbers i h b.0 b.1, b.2)

pub bound_right : (rows : List (List ℕ)) (numbers : List ℕ) (i : ℕ) (row : List ℕ) → i < length numbers → row ≡ get_or rows (get_or numbers i 0) [] → (k : ℕ) → Contains row k → IsBoundOf rows (take (i + 1) numbers) k
bound_right rows numbers i row h e k c = (get_or numbers i 0, take_here numbers i h, subst (λ xs. Contains xs k) e c)

pub row_more : (first : ℕ) (row : List ℕ) (i : ℕ) → i < length row → (k : ℕ) → (k ≡ first) ⊎ Contains (take (i + 1) row) k → ((k ≡ first) ⊎ Contains (take i row) k) ⊎ (k ≡ get_or row i 0)
row_more first row i h k (inl e) = inl (inl e)
row_more first row i h k (inr c) = elim (take_cases row i h k c) [ inl d ↦ inl (inr d) | inr e ↦ inr e ]

pub row_left : (first : ℕ) (row : List ℕ) (i : ℕ) → i < length row → (k : ℕ) → (k ≡ first) ⊎ Contains (take i row) k → (k ≡ first) ⊎ Contains (take (i + 1) row) k
row_left first row i h k (inl e) = inl e
row_left first row i h k (inr c) = inr (take_left row i h k c)

pub row_small : (count first : ℕ) (row : List ℕ) (i : ℕ) → first < count → ((k : ℕ) → Contains row k → k < count) → (k : ℕ) → (k ≡ first) ⊎ Contains (take i row) k → k < count
row_small count first row i h all k (inl e) = subst (λ n. n < count) (sym e) h
row_small count first row i h all k (inr c) = all k (take_member row i k c)

pub row_whole : (first : ℕ) (row : List ℕ) (i : ℕ) → (k : ℕ) → (k ≡ first) ⊎ Contains (take i row) k → (k ≡ first) ⊎ Contains row k
row_whole first row i k (inl e) = inl e
row_whole first row i k (inr c) = inr (take_member row i k c)

pub row_back : (first : ℕ) (row : List ℕ) (i : ℕ) → length row ≤ i → (k : ℕ) → (k ≡ first) ⊎ Contains row k → (k ≡ first) ⊎ Contains (take i row) k
row_back first row i h k (inl e) = inl e
row_back first row i h k (inr c) = inr (subst (λ xs. Contains xs k) (sym (take_all i row h)) c)

pub transitive : (lattice : NamedOrder) → IsLattice lattice → (x y z : ℕ) → x < size_of lattice → y < size_of lattice → z < size_of lattice → IsBelow lattice x y → IsBelow lattice y z → IsBelow lattice x z
transitive lattice is x y z h k m = is.transitive x y z (subst (λ n. x < n) (sym is.counted) h) (subst (λ n. y < n) (sym is.counted) k) (subst (λ n. z < n) (sym is.counted) m)

pub itself : (lattice : NamedOrder) → (x : ℕ) → IsBelow lattice x x
itself lattice x = inl refl
