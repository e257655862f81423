-- Lists in order in which what ties stands as in one other list are the same.
use Rattle.std.proofs.Common.{◌≡◌, ℕ, suc, ◌+◌, ◌<◌, ◌≤◌, List, [], ◌∷◌, Bool, true, false, not, ◌&&◌, cond, filter, map, length, get_or, refl, sym, subst, ◌∙◌, arith}
use Rattle.std.specs.Cmp.{IsStrictWeakOrder}
use Rattle.std.specs.Cmp.Lexicographic.{nat_list_cmp_total}
use Rattle.std.specs.List.Sorted.{IsSortedBy, IsStableBy, ties}
use Rattle.std.proofs.lemmas.Bool.{both_ways, cond-true}
use Rattle.std.proofs.lemmas.List.{get_or-map, length-map}
use Rattle.std.proofs.lemmas.List.Sorted.{ranks_by, sorted_far}
use Rattle.rt_lines.specs.declared.line.Line.{Line}
use Rattle.rt_texts.specs.Texts.{line_text}
use Rattle.rt_settle.specs.Sorted.{AreSorted, sort_names}
use Rattle.rt_settle.specs.Chosen.{AreInOrder, is_before}

module _ {X : Type 0} where
  nil_cons : (x : X) (xs : List X) → [] ≡ x ∷ xs → ⊥
  nil_cons x xs e = cc

  head_of : (x y : X) (xs ys : List X) → x ∷ xs ≡ y ∷ ys → x ≡ y
  head_of x y xs ys e = cc

  tail_of : (x y : X) (xs ys : List X) → x ∷ xs ≡ y ∷ ys → xs ≡ ys
  tail_of x y xs ys e = cc

  -- filters of lists with one head are the same only where those of their tails are
  rest_of : (x : X) (t : Bool) (xs ys : List X) → cond t (x ∷ xs) xs ≡ cond t (x ∷ ys) ys → xs ≡ ys
  rest_of x true xs ys e = tail_of x x xs ys e
  rest_of x false xs ys e = e

module _ {X : Type 0} (lt : X → X → Bool) (order : IsStrictWeakOrder lt) where
  -- each element is no less than those before it
  abbrev Rises : List X → Type 0
  Rises xs = (i j : ℕ) (d : X) → i ≤ j → j < length xs → lt (get_or xs j d) (get_or xs i d) ≡ false

  not_both : (t : Bool) → (t ≡ true → t ≡ false) → t ≡ false
  not_both true h = h refl
  not_both false h = refl

  pub ties_itself : (x : X) → ties lt x x ≡ true
  ties_itself x = let e = not_both (lt x x) (order.one_way x x) in λ i. not (e i) && not (e i)

  ties_parts : (s t : Bool) → not s && not t ≡ true → (s ≡ false) × (t ≡ false)
  ties_parts true t e = absurd (both_ways false refl e)
  ties_parts false true e = absurd (both_ways false refl e)
  ties_parts false false e = (refl, refl)

  abbrev Passes : (X → Bool) → List X → Type 0
  Passes p xs = (i : ℕ) × (i < length xs) × ((d : X) → p (get_or xs i d) ≡ true)

  found_cons : (p : X → Bool) (x : X) (xs : List X) (y : X) (ys : List X) (t : Bool) → p x ≡ t → (filter p xs ≡ y ∷ ys → Passes p xs) → cond t (x ∷ filter p xs) (filter p xs) ≡ y ∷ ys → Passes p (x ∷ xs)
  found_cons p x xs y ys true f rest e = (0, omega arith, λ d. f)
  found_cons p x xs y ys false f rest e = let (i, within, passes) = rest e in (suc i, omega arith, passes)

  -- where a filter finds something, an element passes it
  found : (p : X → Bool) (xs : List X) (y : X) (ys : List X) → filter p xs ≡ y ∷ ys → Passes p xs
  found p [] y ys e = absurd (nil_cons y ys e)
  found p (x ∷ xs) y ys e = found_cons p x xs y ys (p x) refl (found p xs y ys) e

  filter_own : (x : X) (xs : List X) → filter (ties lt x) (x ∷ xs) ≡ x ∷ filter (ties lt x) xs
  filter_own x xs = cond-true (ties lt x x) (x ∷ filter (ties lt x) xs) (filter (ties lt x) xs) (ties_itself x)

  -- no element of a list of the same ties is less than the head of one that rises
  head_least : (x y : X) (xs ys : List X) → Rises (x ∷ xs) → IsStableBy lt (x ∷ xs) (y ∷ ys) → lt y x ≡ false
  head_least x y xs ys rises same =
      let (i, within, tie) = found (ties lt y) (x ∷ xs) y (filter (ties lt y) ys) (sym (same y) ∙ filter_own y ys) in
      let w = get_or (x ∷ xs) i x in
      order.chain y w x (ties_parts (lt y w) (lt w y) (tie x)).0 (rises 0 i x (omega arith) within)

  one_head : (x y : X) (xs ys : List X) → Rises (x ∷ xs) → Rises (y ∷ ys) → IsStableBy lt (x ∷ xs) (y ∷ ys) → x ≡ y
  one_head x y xs ys up up' same =
      let e = head_least x y xs ys up same in
      let f = head_least y x ys xs up' (λ z. sym (same z)) in
      let tie : ties lt x y ≡ true = λ i. not (f i) && not (e i) in
      head_of x y (filter (ties lt x) xs) (filter (ties lt x) ys) (sym (filter_own x xs) ∙ sym (same x) ∙ cond-true (ties lt x y) (y ∷ filter (ties lt x) ys) (filter (ties lt x) ys) tie)

  pub one_sorted : (xs ys : List X) → Rises xs → Rises ys → IsStableBy lt xs ys → xs ≡ ys
  one_sorted [] [] up up' same = refl
  one_sorted [] (y ∷ ys) up up' same = absurd (nil_cons y (filter (ties lt y) ys) (sym (same y) ∙ filter_own y ys))
  one_sorted (x ∷ xs) [] up up' same = absurd (nil_cons x (filter (ties lt x) xs) (same x ∙ filter_own x xs))
  one_sorted (x ∷ xs) (y ∷ ys) up up' same =
      let e = one_head x y xs ys up up' same in
      λ i. e i ∷ one_sorted xs ys (λ k j d le within. up (suc k) (suc j) d (omega arith) (omega arith)) (λ k j d le within. up' (suc k) (suc j) d (omega arith) (omega arith))
      (λ z. rest_of x (ties lt z x) (filter (ties lt z) ys) (filter (ties lt z) xs) (subst (λ w. cond (ties lt z w) (w ∷ filter (ties lt z) ys) (filter (ties lt z) ys) ≡ filter (ties lt z) (x ∷ xs)) (sym e) (same z))) i

pub before_order : IsStrictWeakOrder is_before
before_order = ranks_by nat_list_cmp_total (line_text sort_names)

-- lines of which the texts rise, rise
lines_rise : (lines : List Line) → AreSorted lines → IsSortedBy is_before lines
lines_rise lines sorted k d low within =
    let more : k + 1 < length (map (line_text sort_names) lines) = simp length-map within in
    let a = get_or-map (line_text sort_names) lines (k + 1) d (line_text sort_names d) within in
    let b = get_or-map (line_text sort_names) lines k d (line_text sort_names d) (omega arith) in
    rw (← a, ← b) (sorted k (line_text sort_names d) low more)

-- the same lines in order are one list
pub one_order : (lines first second : List Line) → AreInOrder lines first → AreInOrder lines second → first ≡ second
one_order lines first second a b =
    one_sorted is_before before_order first second (sorted_far is_before before_order first (lines_rise first a.are_sorted)) (sorted_far is_before before_order second (lines_rise second b.are_sorted))
    (λ x. b.stable x ∙ sym (a.stable x))
