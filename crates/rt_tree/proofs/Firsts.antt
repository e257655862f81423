-- The first node with each row, in a map and in a list.
use Rattle.std.proofs.Common.{◌≡◌, ℕ, ◌+◌, ◌<◌, ◌≤◌, ◌⊎◌, inl, inr, Bool, true, false, cond, Option, Some, None, List, [], ◌∷◌, ◌++◌, length, refl, sym, ap, subst, ◌∙◌, arith, length-append}
use Rattle.std.specs.Prelude.{Vec, slice_index, unwrap_or}
use Rattle.std.specs.BTreeMap.{BTreeMap, UpdatesBy, is_at}
use Rattle.std.specs.Cmp.Lexicographic.{slice_cmp}
use Rattle.std.specs.Map.{lookup, KeepsOthers, IsKeyTest, AreApart}
use Rattle.std.specs.Ordering.{nat_cmp, is_eq, eq_by_cmp}
use Rattle.std.specs.Str.{bytes_eq}
use Rattle.std.proofs.lemmas.Bool.{cond-true, cond-false, cases_Bool}
use Rattle.std.proofs.lemmas.Cmp.{nat_list_cmp_total, nat_list_eq_equiv, eq_by_cmp_equiv}
use Rattle.std.proofs.lemmas.List.{get_or_append_left, get_or_push}
use Rattle.std.proofs.lemmas.Map.Text.{is_eq-slice_cmp}
use Rattle.std.proofs.lemmas.Slice.Eq.{bytes_eq-Decides}
use Rattle.rt_tree.specs.Trees.{Nodes}
use Rattle.rt_tree.specs.Partitions.{AreFinerClasses, row_at, number_at}
use Rattle.rt_tree.proofs.Words.{AreNodes}
use Rattle.rt_tree.proofs.Rows.{row_twins, twin_rows}

apart : (row other key : List ℕ) → bytes_eq row other ≡ false → is_eq (slice_cmp nat_cmp row key) ≡ true → is_eq (slice_cmp nat_cmp other key) ≡ false
apart row other key n y =
    is_eq-slice_cmp other key
    ∙ (nat_list_eq_equiv.symm other key ∙ (sym (nat_list_eq_equiv.congr row key other (sym (is_eq-slice_cmp row key) ∙ y)) ∙ n))

other_entries : {K X : Type 0} (eq : K → K → Bool) (test : K → Bool) (old new : List (K × X)) → KeepsOthers eq test old new → (other : K → Bool) → IsKeyTest eq other → AreApart test other → lookup other new ≡ lookup other old
unfolding KeepsOthers
other_entries eq test old new h = h

by_rows : (F G : List ℕ → Option ℕ) (row : List ℕ) (w : Option ℕ) → G row ≡ w → ((other : List ℕ) → bytes_eq row other ≡ false → G other ≡ F other) → (other : List ℕ) → G other ≡ cond (bytes_eq row other) w (F other)
by_rows F G row w here there other = by (cases_Bool (bytes_eq row other))
  where
    by : (bytes_eq row other ≡ true) ⊎ (bytes_eq row other ≡ false) → G other ≡ cond (bytes_eq row other) w (F other)
    by (inl y) = subst (λ l. G l ≡ w) ((bytes_eq-Decides row other).0 y) here ∙ sym (cond-true (bytes_eq row other) w (F other) y)
    by (inr n) = there other n ∙ sym (cond-false (bytes_eq row other) w (F other) n)

-- what a map of rows has after a change at a row
pub rows_updated : {Y : Type 0} (row : List ℕ) (m n : BTreeMap (Vec ℕ Y) ℕ) (w : Option ℕ) → UpdatesBy (λ x y. slice_cmp nat_cmp x.items y.items) (λ k. slice_cmp nat_cmp row k.items) m n w → (other : List ℕ) → number_at n other ≡ cond (bytes_eq row other) w (number_at m other)
rows_updated row m n w h =
    by_rows (number_at m) (number_at n) row w h.1
    (λ other e. other_entries (eq_by_cmp (λ x y. slice_cmp nat_cmp x.items y.items)) (is_at (λ k. slice_cmp nat_cmp row k.items)) m.entries n.entries h.3 (is_at (λ k. slice_cmp nat_cmp other k.items)) (λ x y. (eq_by_cmp_equiv nat_list_cmp_total).congr other x.items y.items) (λ k. apart row other k.items e))

-- the first node with the row of each node so far
pub record AreFirsts (F : List ℕ → Option ℕ) (rows : ℕ → List ℕ) (first : List ℕ) (x : ℕ) : Type 0 where
  pub each : length first ≡ x
  pub told : (y : ℕ) → y < x → F (rows y) ≡ Some (slice_index first y)
  pub back : (row : List ℕ) (f : ℕ) → F row ≡ Some f → (f < x) × (rows f ≡ row)
  pub low : (y : ℕ) → y < x → slice_index first y ≤ y

module _ (F G : List ℕ → Option ℕ) (rows : ℕ → List ℕ) (first : List ℕ) (x f : ℕ) (are : AreFirsts F rows first x) (is : f ≡ unwrap_or (F (rows x)) x)
    (noted : (other : List ℕ) → G other ≡ cond (bytes_eq (rows x) other) (Some f) (F other)) where
  same_row : (y : ℕ) → bytes_eq (rows x) (rows y) ≡ true → rows x ≡ rows y
  same_row y e = (bytes_eq-Decides (rows x) (rows y)).0 e

  known : (g : ℕ) → F (rows x) ≡ Some g → f ≡ g
  known g e = is ∙ ap (λ o. unwrap_or o x) e

  f_first : (f < x + 1) × (rows f ≡ rows x)
  f_first = by (F (rows x)) refl
    where
      by : (o : Option ℕ) → o ≡ F (rows x) → (f < x + 1) × (rows f ≡ rows x)
      by None e = let same : f ≡ x = is ∙ sym (ap (λ o. unwrap_or o x) e) in (omega arith, ap rows same)
      by (Some g) e =
          let same : f ≡ g = known g (sym e) in
          let there = are.back (rows x) g (sym e) in
          let less = there.0 in
          (omega arith, ap rows same ∙ there.1)

  here : slice_index (first ++ f ∷ []) x ≡ f
  here = get_or_push first f 0 x are.each

  before : (y : ℕ) → y < x → slice_index (first ++ f ∷ []) y ≡ slice_index first y
  before y less = get_or_append_left first (f ∷ []) 0 y (subst (λ n. y < n) (sym are.each) less)

  told_before : (y : ℕ) → y < x → G (rows y) ≡ Some (slice_index first y)
  told_before y less = by (cases_Bool (bytes_eq (rows x) (rows y)))
    where
      by : (bytes_eq (rows x) (rows y) ≡ true) ⊎ (bytes_eq (rows x) (rows y) ≡ false) → G (rows y) ≡ Some (slice_index first y)
      by (inr n) = noted (rows y) ∙ (cond-false (bytes_eq (rows x) (rows y)) (Some f) (F (rows y)) n ∙ are.told y less)
      by (inl e) =
          noted (rows y) ∙ (cond-true (bytes_eq (rows x) (rows y)) (Some f) (F (rows y)) e
          ∙ ap Some (known (slice_index first y) (ap F (same_row y e) ∙ are.told y less)))

  told_here : G (rows x) ≡ Some f
  told_here = noted (rows x) ∙ cond-true (bytes_eq (rows x) (rows x)) (Some f) (F (rows x)) ((bytes_eq-Decides (rows x) (rows x)).1 refl)

  split : (y : ℕ) → y < x + 1 → (y < x) ⊎ (x ≡ y)
  split y less = cases y x (omega arith)
    where
      cases : (i j : ℕ) → i ≤ j → (i < j) ⊎ (j ≡ i)
      cases i j le = search (arith)

  told_more : (y : ℕ) → (y < x) ⊎ (x ≡ y) → G (rows y) ≡ Some (slice_index (first ++ f ∷ []) y)
  told_more y (inl less) = told_before y less ∙ ap Some (sym (before y less))
  told_more y (inr same) = subst (λ z. G (rows z) ≡ Some (slice_index (first ++ f ∷ []) z)) same (told_here ∙ ap Some (sym here))

  low_more : (y : ℕ) → (y < x) ⊎ (x ≡ y) → slice_index (first ++ f ∷ []) y ≤ y
  low_more y (inl less) = let e = before y less in let h = are.low y less in omega arith
  low_more y (inr same) = subst (λ z. slice_index (first ++ f ∷ []) z ≤ z) same (let e = here in let h = f_first.0 in omega arith)

  back_more : (row : List ℕ) (g : ℕ) → G row ≡ Some g → (g < x + 1) × (rows g ≡ row)
  back_more row g e = by (cases_Bool (bytes_eq (rows x) row))
    where
      by : (bytes_eq (rows x) row ≡ true) ⊎ (bytes_eq (rows x) row ≡ false) → (g < x + 1) × (rows g ≡ row)
      by (inr n) =
          let there = are.back row g (sym (noted row ∙ cond-false (bytes_eq (rows x) row) (Some f) (F row) n) ∙ e) in
          let less = there.0 in (omega arith, there.1)
      by (inl y) =
          let both : ◌≡◌ {A = Option ℕ} (Some f) (Some g) = sym (noted row ∙ cond-true (bytes_eq (rows x) row) (Some f) (F row) y) ∙ e in
          let same : f ≡ g = cc in
          (subst (λ n. n < x + 1) same f_first.0, subst (λ n. rows n ≡ row) same (f_first.1 ∙ (bytes_eq-Decides (rows x) row).0 y))

  pub more_firsts : AreFirsts G rows (first ++ f ∷ []) (x + 1)
  more_firsts = record {
    each = let e = length-append first (f ∷ []) in let h = are.each in omega arith;
    told = λ y less. told_more y (split y less);
    back = back_more;
    low = λ y less. low_more y (split y less);
  }

-- the first nodes with the rows of all nodes are finer classes
pub firsts_finer : (t : Nodes) → AreNodes t → (class first : List ℕ) (F : List ℕ → Option ℕ) → AreFirsts F (row_at class t) first (length t) → AreFinerClasses t class first
firsts_finer t good class first F are = record {
  each = are.each;
  within = λ x less. (there x less).0;
  twin = λ x less. row_twins t good class x (slice_index first x) less (there x less).0 (sym (there x less).1);
  first = λ x y less less' twins.
      let same : ◌≡◌ {A = Option ℕ} (Some (slice_index first x)) (Some (slice_index first y)) = sym (are.told x less) ∙ (ap F (twin_rows t class x y twins) ∙ are.told y less') in
      let one : slice_index first x ≡ slice_index first y = cc in
      let low = are.low y less' in
      omega arith;
}
  where
    there : (x : ℕ) → x < length t → (slice_index first x < length t) × (row_at class t (slice_index first x) ≡ row_at class t x)
    there x less = are.back (row_at class t x) (slice_index first x) (are.told x less)
