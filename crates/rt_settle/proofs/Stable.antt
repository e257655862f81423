-- Lines that are sorted with their texts stand as a stable sort leaves them.
use Rattle.std.proofs.Common.{◌≡◌, ℕ, ◌⊎◌, inl, inr, List, [], ◌∷◌, Bool, true, false, not, ◌&&◌, cond, filter, map, All, Contains, IsPermutation, get_or, Ordering, Less, Equal, Greater, refl, sym, ap, ◌∙◌, is_lt, nat_cmp}
use Rattle.std.specs.Ordering.{ordering_reverse}
use Rattle.std.specs.Cmp.{alike_right}
use Rattle.std.specs.Cmp.Lexicographic.{slice_cmp, nat_list_cmp_total}
use Rattle.std.specs.List.Sorted.{IsStableBy, ties}
use Rattle.std.proofs.lemmas.Bool.{both_ways}
use Rattle.std.proofs.lemmas.List.Elements.{All-nil, All-cons, All-head, All-tail, All-contains}
use Rattle.std.proofs.lemmas.List.Sorted.{All-permutation}
use Rattle.rt_base.proofs.Lists.{Contains-here, Contains-there}
use Rattle.rt_lines.specs.declared.line.Line.{Line}
use Rattle.rt_texts.specs.Texts.{line_text}
use Rattle.rt_settle.specs.declared.ordering.Written.{Written}
use Rattle.rt_settle.specs.Sorted.{sort_names}
use Rattle.rt_settle.specs.Chosen.{is_before}

module _ {X : Type 0} (p : X → Bool) where
  -- an element passes, or none does
  abbrev Found : List X → Type 0
  Found xs = ((x : X) × Contains xs x × (p x ≡ true)) ⊎ All (λ x. p x ≡ false) xs

  found_cons : (x : X) (xs : List X) (t : Bool) → p x ≡ t → Found xs → Found (x ∷ xs)
  found_cons x xs true e rest = inl (x, Contains-here x xs, e)
  found_cons x xs false e (inl (y, c, f)) = inl (y, Contains-there x xs y c, f)
  found_cons x xs false e (inr none) = inr (All-cons (λ y. p y ≡ false) x xs e none)

  find_passing : (xs : List X) → Found xs
  find_passing [] = inr (All-nil (λ y. p y ≡ false))
  find_passing (x ∷ xs) = found_cons x xs (p x) refl (find_passing xs)

  filter_none : (xs : List X) → All (λ x. p x ≡ false) xs → filter p xs ≡ []
  filter_none [] none = refl
  filter_none (x ∷ xs) none = (λ i. cond (All-head (λ y. p y ≡ false) x xs none i) (x ∷ filter p xs) (filter p xs)) ∙ filter_none xs (All-tail (λ y. p y ≡ false) x xs none)

  filter_alike : (q : X → Bool) (xs : List X) → All (λ x. p x ≡ q x) xs → filter p xs ≡ filter q xs
  filter_alike q [] same = refl
  filter_alike q (x ∷ xs) same =
      let rest = filter_alike q xs (All-tail (λ y. p y ≡ q y) x xs same) in
      λ i. cond (All-head (λ y. p y ≡ q y) x xs same i) (x ∷ rest i) (rest i)

map_cond : {X Y : Type 0} (f : X → Y) (x : X) (t : Bool) (xs : List X) → cond t (f x ∷ map f xs) (map f xs) ≡ map f (cond t (x ∷ xs) xs)
map_cond f x true xs = refl
map_cond f x false xs = refl

filter_map_lem : {X Y : Type 0} (f : X → Y) (p : Y → Bool) (xs : List X) → filter p (map f xs) ≡ map f (filter (λ x. p (f x)) xs)
filter_map_lem f p [] = refl
filter_map_lem f p (x ∷ xs) = (λ i. cond (p (f x)) (f x ∷ filter_map_lem f p xs i) (filter_map_lem f p xs i)) ∙ map_cond f x (p (f x)) (filter (λ y. p (f y)) xs)

tied_equal : (o p : Ordering) → p ≡ ordering_reverse o → not (is_lt o) && not (is_lt p) ≡ true → o ≡ Equal
tied_equal Less p e t = absurd (both_ways false refl t)
tied_equal Equal p e t = refl
tied_equal Greater p e t = absurd (both_ways (not (is_lt p)) (ap (λ q. not (is_lt q)) e) t)

-- texts that tie tie with the same texts
ties_alike : (s t u : List ℕ) → ties (λ a b. is_lt (slice_cmp nat_cmp a b)) s t ≡ true → ties (λ a b. is_lt (slice_cmp nat_cmp a b)) s u ≡ ties (λ a b. is_lt (slice_cmp nat_cmp a b)) t u
ties_alike s t u tie =
    let e = tied_equal (slice_cmp nat_cmp s t) (slice_cmp nat_cmp t s) (nat_list_cmp_total.antisymm t s) tie in
    λ i. not (is_lt (nat_list_cmp_total.congr s t u e i)) && not (is_lt (alike_right nat_list_cmp_total s t u e i))

module _ (written sorted : List Written) (moved : IsPermutation written sorted) (texts : All (λ w. w.text.items ≡ line_text sort_names w.line) written)
    (stable : IsStableBy (λ a b. is_lt (slice_cmp nat_cmp a.text.items b.text.items)) written sorted) where
  -- by any line, the same written lines tie
  same_ties : (x : Line) → Found (λ (w : Written). ties is_before x w.line) written → filter (λ (w : Written). ties is_before x w.line) sorted ≡ filter (λ (w : Written). ties is_before x w.line) written
  same_ties x (inr none) =
      let p = λ (w : Written). ties is_before x w.line in
      filter_none p sorted (All-permutation (λ w. p w ≡ false) written sorted moved none) ∙ sym (filter_none p written none)
  same_ties x (inl (w, c, tie)) =
      filter_alike p q sorted (All-permutation (λ v. p v ≡ q v) written sorted moved alike) ∙ stable w ∙ sym (filter_alike p q written alike)
    where
      p : Written → Bool
      p v = ties is_before x v.line

      q : Written → Bool
      q v = ties (λ a b. is_lt (slice_cmp nat_cmp a.text.items b.text.items)) w v

      alike : All (λ v. p v ≡ q v) written
      alike = λ k d lt. let v = get_or written k d in
          ties_alike (line_text sort_names x) (line_text sort_names w.line) (line_text sort_names v.line) tie
          ∙ (λ i. ties (λ a b. is_lt (slice_cmp nat_cmp a b)) (sym (All-contains (λ u. u.text.items ≡ line_text sort_names u.line) written w texts c) i) (sym (texts k d lt) i))

  pub stable_lines : IsStableBy is_before (map (λ w. w.line) written) (map (λ w. w.line) sorted)
  stable_lines x =
      filter_map_lem (λ w. w.line) (ties is_before x) sorted ∙ ap (map (λ w. w.line)) (same_ties x (find_passing (λ w. ties is_before x w.line) written))
      ∙ sym (filter_map_lem (λ w. w.line) (ties is_before x) written)
