-- Classes, when one is renamed into another.
use Rattle.std.proofs.Common.{◌≡◌, ℕ, zero, suc, ◌+◌, ◌<◌, ◌≤◌, ◌⊎◌, inl, inr, min, max, List, [], ◌∷◌, length, map, get_or, Contains, sym, subst, ◌∙◌, arith}
use Rattle.std.specs.Prelude.{slice_index}
use Rattle.std.proofs.lemmas.Bool.{cases_eq}
use Rattle.std.proofs.lemmas.Bool.Decides.{nat_tests}
use Rattle.std.proofs.lemmas.List.{length-map, get_or-map}
use Rattle.rt_shape.specs.Graphs.{Graph}
use Rattle.rt_shape.specs.Inside.Classes.{Joined, AreClasses, AreApart, IsViolated, renamed_class}
use Rattle.rt_shape.specs.Inside.Classes.Joined.{joined_pair, joined_self, joined_back, joined_chain, joined_letter}

pub is_renamed : (a b c : ℕ) → c ≡ max a b → renamed_class a b c ≡ min a b
is_renamed a b c e = grind (arith, nat_tests)

pub is_kept : (a b c : ℕ) → (c ≡ max a b → ⊥) → renamed_class a b c ≡ c
is_kept a b c ne = grind (arith, nat_tests)

renamed-le : (a b c : ℕ) → renamed_class a b c ≤ c
renamed-le a b c = by (cases_eq c (max a b))
  where
    by : (c ≡ max a b) ⊎ (c ≡ max a b → ⊥) → renamed_class a b c ≤ c
    by (inl e) = let r = is_renamed a b c e in omega (arith, r)
    by (inr ne) = let r = is_kept a b c ne in omega (arith, r)

-- the sum of a list
abbrev pub total : List ℕ → ℕ
total [] = 0
total (x ∷ xs) = x + total xs

total_map-le : (f : ℕ → ℕ) (xs : List ℕ) → ((x : ℕ) → f x ≤ x) → total (map f xs) ≤ total xs
total_map-le f [] h = omega arith
total_map-le f (x ∷ xs) h = let first = h x in let rest = total_map-le f xs h in omega arith

total_map-lt : (f : ℕ → ℕ) (xs : List ℕ) (i : ℕ) → ((x : ℕ) → f x ≤ x) → i < length xs → f (get_or xs i 0) < get_or xs i 0 → total (map f xs) < total xs
total_map-lt f [] i h less drops = absurd (omega arith)
total_map-lt f (x ∷ xs) zero h less drops = let rest = total_map-le f xs h in omega arith
total_map-lt f (x ∷ xs) (suc i) h less drops = let first = h x in let rest = total_map-lt f xs i h (omega arith) drops in omega arith

-- the sum of the classes falls where one of two is renamed into the other
pub total-renamed : (class : List ℕ) (i j : ℕ) → i < length class → j < length class → (get_or class i 0 ≡ get_or class j 0 → ⊥) → total (map (renamed_class (get_or class i 0) (get_or class j 0)) class) < total class
total-renamed class i j less_i less_j apart = by (cases_eq (get_or class i 0) (max (get_or class i 0) (get_or class j 0)))
  where
    a : ℕ
    a = get_or class i 0

    b : ℕ
    b = get_or class j 0

    by : (get_or class i 0 ≡ max (get_or class i 0) (get_or class j 0)) ⊎ (get_or class i 0 ≡ max (get_or class i 0) (get_or class j 0) → ⊥) → total (map (renamed_class (get_or class i 0) (get_or class j 0)) class) < total class
    by (inl e) =
        let r = is_renamed (get_or class i 0) (get_or class j 0) (get_or class i 0) e in
        total_map-lt (renamed_class (get_or class i 0) (get_or class j 0)) class i (renamed-le (get_or class i 0) (get_or class j 0)) less_i (omega (arith, r))
    by (inr ne) =
        let f : get_or class j 0 ≡ max (get_or class i 0) (get_or class j 0) = omega arith in
        let r = is_renamed (get_or class i 0) (get_or class j 0) (get_or class j 0) f in
        total_map-lt (renamed_class (get_or class i 0) (get_or class j 0)) class j (renamed-le (get_or class i 0) (get_or class j 0)) less_j (omega (arith, r))

module _ (graph : Graph) (pairs : List (ℕ × ℕ)) (class : List ℕ) (are : AreClasses graph pairs class) where
  -- nodes of one class have to be one
  pub joined_in_class : (i j : ℕ) → i < graph.count → j < graph.count → slice_index class i ≡ slice_index class j → Joined graph pairs i j
  joined_in_class i j less_i less_j e = joined_chain (are.sound i less_i) (joined_back (subst (Joined graph pairs j) (sym e) (are.sound j less_j)))

  pub violated_by_pair : (i j : ℕ) → (i < graph.count) × (j < graph.count) → Contains pairs (i, j) → (slice_index class i ≡ slice_index class j → ⊥) → IsViolated graph pairs class i j
  violated_by_pair i j within c ne = record { first_in = within.0; second_in = within.1; joined = joined_pair c; apart = ne }

  pub violated_by_steps : (m n : ℕ) → AreApart graph class m n → IsViolated graph pairs class m n
  violated_by_steps m n apart =
      let f = apart.from in
      record {
        first_in = apart.within.0;
        second_in = apart.within.1;
        joined = joined_letter f.2 f.3 f.6 (joined_in_class f.0 f.1 f.4 f.5 f.7) f.8 f.9;
        apart = apart.apart;
      }

  module _ (i j : ℕ) (violated : IsViolated graph pairs class i j) where
    abbrev first : ℕ
    first = slice_index class i

    abbrev second : ℕ
    second = slice_index class j

    classes_joined : Joined graph pairs first second
    classes_joined =
        joined_chain (joined_back (are.sound i violated.first_in))
        (joined_chain violated.joined (are.sound j violated.second_in))

    greater_joined : Joined graph pairs (max first second) (min first second)
    greater_joined = by (cases_eq first (max first second))
      where
        by : (first ≡ max first second) ⊎ (first ≡ max first second → ⊥) → Joined graph pairs (max first second) (min first second)
        by (inl e) =
            let f : second ≡ min first second = omega arith in
            subst (λ n. Joined graph pairs (max first second) n) f (subst (λ m. Joined graph pairs m second) e classes_joined)
        by (inr ne) =
            let e : second ≡ max first second = omega arith in
            let f : first ≡ min first second = omega arith in
            subst (λ n. Joined graph pairs (max first second) n) f (subst (λ m. Joined graph pairs m first) e (joined_back classes_joined))

    renamed_at : (k : ℕ) → k < graph.count → slice_index (map (renamed_class first second) class) k ≡ renamed_class first second (slice_index class k)
    renamed_at k less = get_or-map (renamed_class first second) class k 0 0 (subst (λ n. k < n) (sym are.each) less)

    turned : (k : ℕ) → k < graph.count → (renamed_class first second (slice_index class k) < graph.count) × Joined graph pairs k (renamed_class first second (slice_index class k))
    turned k less = by (cases_eq (slice_index class k) (max first second))
      where
        by : (slice_index class k ≡ max first second) ⊎ (slice_index class k ≡ max first second → ⊥) → (renamed_class first second (slice_index class k) < graph.count) × Joined graph pairs k (renamed_class first second (slice_index class k))
        by (inl e) =
            let r : renamed_class first second (slice_index class k) ≡ min first second = is_renamed first second (slice_index class k) e in
            let below : slice_index class k < graph.count = are.within k less in
            let fits : min first second < graph.count = omega arith in (
              subst (λ n. n < graph.count) (sym r) fits,
              subst (Joined graph pairs k) (sym r) (joined_chain (are.sound k less) (subst (λ m. Joined graph pairs m (min first second)) (sym e) greater_joined)),
            )
        by (inr ne) =
            let r : renamed_class first second (slice_index class k) ≡ slice_index class k = is_kept first second (slice_index class k) ne in
            (subst (λ n. n < graph.count) (sym r) (are.within k less), subst (Joined graph pairs k) (sym r) (are.sound k less))

    -- where two nodes have to be one, one's class may be renamed into the other's
    pub renamed_classes : AreClasses graph pairs (map (renamed_class (slice_index class i) (slice_index class j)) class)
    renamed_classes = record {
      each = length-map class (renamed_class first second) ∙ are.each;
      within = λ k less. subst (λ n. n < graph.count) (sym (renamed_at k less)) (turned k less).0;
      sound = λ k less. subst (Joined graph pairs k) (sym (renamed_at k less)) (turned k less).1;
    }

-- a class of its own for each node
pub own_are_classes : (graph : Graph) (pairs : List (ℕ × ℕ)) (class : List ℕ) → length class ≡ graph.count → ((i : ℕ) → i < graph.count → slice_index class i ≡ i) → AreClasses graph pairs class
own_are_classes graph pairs class each own = record {
  each = each;
  within = λ i less. subst (λ n. n < graph.count) (sym (own i less)) less;
  sound = λ i less. subst (Joined graph pairs i) (sym (own i less)) joined_self;
}
