-- Classes of one node each, and lists without letters.
use Rattle.std.proofs.Common.{◌≡◌, ℕ, ◌+◌, ◌<◌, ◌≤◌, ◌⊎◌, inl, inr, Some, List, [], ◌∷◌, ◌++◌, length, get_or, Contains, sym, ap, subst, ◌∙◌, arith}
use Rattle.std.specs.Prelude.{slice_index}
use Rattle.std.specs.Map.{lookup}
use Rattle.std.proofs.lemmas.Bool.{cases_eq, cases_lt}
use Rattle.std.proofs.lemmas.List.{length_push, get_or_append_left, get_or_push, get_or_past}
use Rattle.std.proofs.lemmas.Option.{none-some}
use Rattle.rt_base.proofs.Lists.{Contains-none, Contains-cons_cases}
use Rattle.rt_lines.specs.declared.label.Label.{Label}
use Rattle.rt_shape.specs.Graphs.{Graph, letter_eq}
use Rattle.rt_shape.specs.Inside.Classes.{Joined}
use Rattle.rt_shape.specs.Inside.Classes.Joined.{joined_pair, joined_self}
use Rattle.rt_shape.specs.Inside.Joins.{AreAlone, AreEmpty, AreSound}

-- what a list of lists holds, one list more at its end
pub Contains-pushed_cases : {X : Type 0} (xs : List (List X)) (ys : List X) (c : ℕ) (x : X) → Contains (get_or (xs ++ ys ∷ []) c []) x → Contains (get_or xs c []) x ⊎ ((c ≡ length xs) × Contains ys x)
Contains-pushed_cases xs ys c x h = by (cases_lt c (length xs)) (cases_eq c (length xs))
  where
    by : (c < length xs) ⊎ (length xs ≤ c) → (c ≡ length xs) ⊎ (c ≡ length xs → ⊥) → Contains (get_or xs c []) x ⊎ ((c ≡ length xs) × Contains ys x)
    by (inl less) other = inl (subst (λ zs. Contains zs x) (get_or_append_left xs (ys ∷ []) [] c less) h)
    by (inr past) (inl e) = inr (e, subst (λ zs. Contains zs x) (get_or_push xs ys [] c (sym e)) h)
    by (inr past) (inr ne) =
        let whole = length_push xs ys in
        let beyond : length (xs ++ ys ∷ []) ≤ c = omega arith in
        absurd (Contains-none x (subst (λ zs. Contains zs x) (get_or_past (xs ++ ys ∷ []) c [] beyond) h))

pub AreAlone-push : (n : ℕ) (members : List (List ℕ)) (own : List ℕ) → AreAlone n members → own ≡ n ∷ [] → AreAlone (n + 1) (members ++ own ∷ [])
AreAlone-push n members own are e = record {
  each = length_push members own ∙ ap (λ m. m + 1) are.each;
  own = λ c k h. by c k (Contains-pushed_cases members own c k h);
}
  where
    only : (k : ℕ) → (n ≡ k) ⊎ Contains [] k → n ≡ k
    only k (inl f) = f
    only k (inr h) = absurd (Contains-none k h)

    by : (c k : ℕ) → Contains (get_or members c []) k ⊎ ((c ≡ length members) × Contains own k) → (c ≡ k) × (k < n + 1)
    by c k (inl h) = let old = are.own c k h in (old.0, (let less = old.1 in omega arith))
    by c k (inr (f, h)) =
        let same : n ≡ k = only k (Contains-cons_cases n [] k (subst (λ xs. Contains xs k) e h)) in
        (f ∙ are.each ∙ same, omega arith)

pub AreEmpty-push : {X : Type 0} (n : ℕ) (letters : List (List X)) (own : List X) → AreEmpty n letters → own ≡ [] → AreEmpty (n + 1) (letters ++ own ∷ [])
AreEmpty-push n letters own are e = record {
  each = length_push letters own ∙ ap (λ m. m + 1) are.each;
  none = λ c x h. by c x (Contains-pushed_cases letters own c x h);
}
  where
    by : (c : ℕ) (x : _) → Contains (get_or letters c []) x ⊎ ((c ≡ length letters) × Contains own x) → ⊥
    by c x (inl h) = are.none c x h
    by c x (inr (f, h)) = Contains-none x (subst (λ xs. Contains xs x) e h)

-- nothing is known but the pairs
pub begun : (graph : Graph) (pairs : List (ℕ × ℕ)) (class : List ℕ) (members : List (List ℕ)) (letters : List (List (Label × ℕ))) (first : List ((ℕ × Label) × ℕ)) (todo : List (ℕ × ℕ)) →
    length class ≡ graph.count → ((i : ℕ) → i < graph.count → slice_index class i ≡ i) → AreAlone graph.count members → AreEmpty graph.count letters → first ≡ [] → todo ≡ pairs →
    ((i j : ℕ) → Contains pairs (i, j) → (i < graph.count) × (j < graph.count)) → AreSound graph pairs class members letters first todo
begun graph pairs class members letters first todo each own alone empty no_first same pairs_in = record {
  each = each;
  members_each = alone.each;
  letters_each = empty.each;
  class_joined = λ i less. (subst (λ n. n < graph.count) (sym (own i less)) less, subst (Joined graph pairs i) (sym (own i less)) joined_self);
  members_joined = λ c k h. let a = alone.own c k h in (a.1, subst (λ n. Joined graph pairs k n) (sym a.0) joined_self);
  letters_lead = λ c l t h. absurd (empty.none c (l, t) h);
  first_leads = λ c l t e. absurd (none-some t (subst (λ es. lookup (letter_eq (c, l)) es ≡ Some t) no_first e));
  todo_joined = λ i j h. let p = subst (λ ps. Contains ps (i, j)) same h in let within = pairs_in i j p in (within.0, within.1, joined_pair p);
}
