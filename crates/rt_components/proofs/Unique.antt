-- The groups of a graph and their order are determined.
use Rattle.std.proofs.Common.{◌≡◌, ℕ, zero, suc, ◌<◌, ◌≤◌, ◌⊎◌, inl, inr, List, [], ◌∷◌, length, slice_index, Contains, refl, sym, ap, subst, ◌∙◌, arith}
use Rattle.std.specs.List.Sorted.{IsStrictlyIncreasing}
use Rattle.std.proofs.lemmas.Bool.{cases_lt}
use Rattle.std.proofs.lemmas.List.{get_or_past, ext_get_or}
use Rattle.std.proofs.lemmas.Map.Keys.{sorted_from_strictly_increasing, below_from_sorted}
use Rattle.rt_components.specs.Groups.{AreTogether, AreGroups, IsAmongFirst, MayCome, group_at}
use Rattle.rt_components.specs.Groups.Reaches.{there}
use Rattle.rt_components.specs.Inside.Walks.{Rises}
use Rattle.rt_components.proofs.Numbers.{place_in, contains_at, cons_here, cons_there, cons_cases}
use Rattle.rt_base.proofs.Numbers.{before_or}
use Rattle.rt_base.proofs.Lists.{Contains-none}

pub rises : (xs : List ℕ) → IsStrictlyIncreasing xs → Rises xs
rises xs up i j less within = below_from_sorted xs i j 0 (sorted_from_strictly_increasing xs up) less within

head_below : (x : ℕ) (xs : List ℕ) (y : ℕ) → Rises (x ∷ xs) → Contains xs y → x < y
head_below x xs y up c =
    let place = place_in xs y c in
    let less : place.0 < length xs = place.1 in
    let low : x < slice_index xs place.0 = up zero (suc place.0) (omega arith) (omega arith) in
    let is : slice_index xs place.0 ≡ y = place.2 in
    omega arith

tail_rises : (x : ℕ) (xs : List ℕ) → Rises (x ∷ xs) → Rises xs
tail_rises x xs up i j less within = up (suc i) (suc j) (omega arith) (omega arith)

-- lists that rise are one if they contain the same
pub same_ascending : (xs ys : List ℕ) → Rises xs → Rises ys → ((a : ℕ) → Contains xs a → Contains ys a) → ((a : ℕ) → Contains ys a → Contains xs a) → xs ≡ ys
same_ascending [] [] up up' on back = refl
same_ascending [] (y ∷ ys) up up' on back = absurd (Contains-none y (back y (cons_here y ys)))
same_ascending (x ∷ xs) [] up up' on back = absurd (Contains-none x (on x (cons_here x xs)))
same_ascending (x ∷ xs) (y ∷ ys) up up' on back = by head (λ e. same_ascending xs ys (tail_rises x xs up) (tail_rises y ys up') (λ a c. on_tail e a c) (λ a c. back_tail e a c))
  where
    first : (x ≡ y) ⊎ Contains xs y → (y ≡ x) ⊎ Contains ys x → x ≡ y
    first (inl e) h = e
    first (inr c) (inl e) = sym e
    first (inr c) (inr d) = let low : x < y = head_below x xs y up c in let high : y < x = head_below y ys x up' d in absurd (omega arith)

    head : x ≡ y
    head = first (cons_cases x xs y (back y (cons_here y ys))) (cons_cases y ys x (on x (cons_here x xs)))

    on_tail : x ≡ y → (a : ℕ) → Contains xs a → Contains ys a
    on_tail e a c = one (cons_cases y ys a (on a (cons_there x xs a c)))
      where
        one : (y ≡ a) ⊎ Contains ys a → Contains ys a
        one (inl f) = let low : x < a = head_below x xs a up c in absurd (omega arith)
        one (inr d) = d

    back_tail : x ≡ y → (a : ℕ) → Contains ys a → Contains xs a
    back_tail e a c = one (cons_cases x xs a (back a (cons_there y ys a c)))
      where
        one : (x ≡ a) ⊎ Contains xs a → Contains xs a
        one (inl f) = let low : y < a = head_below y ys a up' c in absurd (omega arith)
        one (inr d) = d

    by : x ≡ y → (x ≡ y → xs ≡ ys) → x ∷ xs ≡ y ∷ ys
    by e rest = ap (λ z. z ∷ xs) e ∙ ap (λ zs. y ∷ zs) (rest e)

module _ (count : ℕ) (Edge : ℕ → ℕ → Type 0) where
  together_self : (a : ℕ) → AreTogether Edge a a
  together_self a = (there, there)

  place_less : (xs : List (List ℕ)) (i a : ℕ) → Contains (group_at xs i) a → i < length xs
  place_less xs i a c = by (cases_lt i (length xs))
    where
      by : (i < length xs) ⊎ (length xs ≤ i) → i < length xs
      by (inl less) = less
      by (inr le) = absurd (Contains-none a (subst (λ ys. Contains ys a) (get_or_past xs i [] le) c))

  -- groups of a node in two lists of groups have the same members
  in_same : (xs ys : List (List ℕ)) → AreGroups count Edge xs → AreGroups count Edge ys → (i j a : ℕ) → Contains (group_at xs i) a → Contains (group_at ys j) a → (b : ℕ) → Contains (group_at xs i) b → Contains (group_at ys j) b
  in_same xs ys p q i j a c d b e =
      let pair : AreTogether Edge a b = (p.together i i a b c e).0 refl in
      let there = (q.nodes b).0 ((p.nodes b).1 (i, place_less xs i b e, e)) in
      let same : j ≡ there.0 = (q.together j there.0 a b d there.2).1 pair in
      subst (λ k. Contains (group_at ys k) b) (sym same) there.2

  pub same_group : (xs ys : List (List ℕ)) → AreGroups count Edge xs → AreGroups count Edge ys → (i j a : ℕ) → Contains (group_at xs i) a → Contains (group_at ys j) a → group_at xs i ≡ group_at ys j
  same_group xs ys p q i j a c d =
      same_ascending (group_at xs i) (group_at ys j) (rises (group_at xs i) (p.ascending i (place_less xs i a c))) (rises (group_at ys j) (q.ascending j (place_less ys j a d)))
      (in_same xs ys p q i j a c d) (in_same ys xs q p j i a d c)

  -- the first groups of both are the same
  abbrev SameFirst : List (List ℕ) → List (List ℕ) → ℕ → Type 0
  SameFirst xs ys k = (i : ℕ) → i < k → group_at xs i ≡ group_at ys i

  first_in : (xs : List (List ℕ)) → AreGroups count Edge xs → (k : ℕ) → k < length xs → Contains (group_at xs k) (slice_index (group_at xs k) 0)
  first_in xs p k less = contains_at (group_at xs k) 0 (p.full k less)

  -- the next one of the second has no greater first member
  next_le : (xs ys : List (List ℕ)) → AreGroups count Edge xs → AreGroups count Edge ys → (k : ℕ) → SameFirst xs ys k → k < length xs → (k < length ys) × (slice_index (group_at ys k) 0 ≤ slice_index (group_at xs k) 0)
  next_le xs ys p q k same less = by ((q.nodes (slice_index (group_at xs k) 0)).0 ((p.nodes (slice_index (group_at xs k) 0)).1 (k, less, first_in xs p k less)))
    where
      first : ℕ → ℕ
      first i = slice_index (group_at xs i) 0

      by : IsAmongFirst ys (length ys) (slice_index (group_at xs k) 0) → (k < length ys) × (slice_index (group_at ys k) 0 ≤ slice_index (group_at xs k) 0)
      by (j, within, c) = at (cases_lt j k)
        where
          is : group_at xs k ≡ group_at ys j
          is = same_group xs ys p q k j (slice_index (group_at xs k) 0) (first_in xs p k less) c

          may : MayCome Edge ys k j
          may a b d edge = next (p.may k less a b (subst (λ zs. Contains zs a) (sym is) d) edge)
            where
              next : Contains (group_at xs k) b ⊎ IsAmongFirst xs k b → Contains (group_at ys j) b ⊎ IsAmongFirst ys k b
              next (inl e) = inl (subst (λ zs. Contains zs b) is e)
              next (inr (i, low, e)) = inr (i, low, subst (λ zs. Contains zs b) (same i low) e)

          at : (j < k) ⊎ (k ≤ j) → (k < length ys) × (slice_index (group_at ys k) 0 ≤ slice_index (group_at xs k) 0)
          at (inl low) =
              let earlier : Contains (group_at xs j) (slice_index (group_at xs k) 0) = subst (λ zs. Contains zs (slice_index (group_at xs k) 0)) (sym (same j low)) c in
              let one : j ≡ k = (p.together j k (slice_index (group_at xs k) 0) (slice_index (group_at xs k) 0) earlier (first_in xs p k less)).1 (together_self (slice_index (group_at xs k) 0)) in
              absurd (omega arith)
          at (inr le) = (omega arith, subst (λ zs. slice_index (group_at ys k) 0 ≤ slice_index zs 0) (sym is) (q.least k j le within may))

  back_first : (xs ys : List (List ℕ)) (k : ℕ) → SameFirst xs ys k → SameFirst ys xs k
  back_first xs ys k same i less = sym (same i less)

  next_same : (xs ys : List (List ℕ)) → AreGroups count Edge xs → AreGroups count Edge ys → (k : ℕ) → SameFirst xs ys k → k < length xs → group_at xs k ≡ group_at ys k
  next_same xs ys p q k same less =
      let on = next_le xs ys p q k same less in
      let back = next_le ys xs q p k (back_first xs ys k same) on.0 in
      let low : slice_index (group_at ys k) 0 ≤ slice_index (group_at xs k) 0 = on.1 in
      let high : slice_index (group_at xs k) 0 ≤ slice_index (group_at ys k) 0 = back.1 in
      let one : slice_index (group_at ys k) 0 ≡ slice_index (group_at xs k) 0 = omega arith in
      same_group xs ys p q k k (slice_index (group_at xs k) 0) (first_in xs p k less) (subst (Contains (group_at ys k)) one (first_in ys q k on.0))

  all_first : (xs ys : List (List ℕ)) → AreGroups count Edge xs → AreGroups count Edge ys → (k : ℕ) → k ≤ length xs → SameFirst xs ys k
  all_first xs ys p q zero le i less = absurd (omega arith)
  all_first xs ys p q (suc k) le i less = by (all_first xs ys p q k (omega arith)) (before_or k i (omega arith))
    where
      by : SameFirst xs ys k → (i < k) ⊎ (i ≡ k) → group_at xs i ≡ group_at ys i
      by same (inl low) = same i low
      by same (inr e) = subst (λ j. group_at xs j ≡ group_at ys j) (sym e) (next_same xs ys p q k same (omega arith))

  no_longer : (xs ys : List (List ℕ)) → AreGroups count Edge xs → AreGroups count Edge ys → length ys ≤ length xs
  no_longer xs ys p q = by (cases_lt (length xs) (length ys))
    where
      by : (length xs < length ys) ⊎ (length ys ≤ length xs) → length ys ≤ length xs
      by (inr le) = le
      by (inl less) = let more = next_le ys xs q p (length xs) (back_first xs ys (length xs) (all_first xs ys p q (length xs) (omega arith))) less in absurd (let low : length xs < length xs = more.0 in omega arith)

  pub one_list : (xs ys : List (List ℕ)) → AreGroups count Edge xs → AreGroups count Edge ys → xs ≡ ys
  one_list xs ys p q =
      let on = no_longer xs ys p q in
      let back = no_longer ys xs q p in
      let same : length xs ≡ length ys = omega arith in
      ext_get_or [] xs ys same (all_first xs ys p q (length xs) (omega arith))
