-- Classes numbered as they first stand.
use Rattle.std.proofs.Common.{◌≡◌, ℕ, ◌+◌, ◌<◌, ◌≤◌, ◌⊎◌, inl, inr, Option, None, Some, List, [], ◌∷◌, ◌++◌, length, get_or, set, sym, ap, subst, ◌∙◌, arith, get_or-set_same, get_or-set_other}
use Rattle.std.specs.Prelude.{slice_index}
use Rattle.std.proofs.lemmas.Bool.{cases_eq}
use Rattle.std.proofs.lemmas.List.{length-set, length_push, get_or_push, get_or_append_left}
use Rattle.std.proofs.lemmas.Option.{none-some, same_Some}
use Rattle.rt_shape.specs.Inside.Classes.{IsNumbering}

-- the number of a class, where it is known
abbrev pub number_of : List (Option ℕ) → ℕ → Option ℕ
number_of known c = get_or known c None

-- the classes before place i have numbers, from 0 as they first stand
pub record AreNumbered (class : List ℕ) (i : ℕ) (known : List (Option ℕ)) (numbers : List ℕ) (count : ℕ) : Type 0 where
  pub size : length known ≡ length class
  pub each : length numbers ≡ i
  pub few : count ≤ i
  pub found : (k : ℕ) → k < i → number_of known (slice_index class k) ≡ Some (slice_index numbers k)
  pub below : (c n : ℕ) → number_of known c ≡ Some n → n < count
  pub single : (c d n : ℕ) → number_of known c ≡ Some n → number_of known d ≡ Some n → c ≡ d
  pub all : (n : ℕ) → n < count → (k : ℕ) × (k < i) × (slice_index numbers k ≡ n)

module _ (class : List ℕ) (i : ℕ) (known : List (Option ℕ)) (numbers : List ℕ) (count : ℕ) (are : AreNumbered class i known numbers count) where
  split : (k : ℕ) → k < i + 1 → (k < i) ⊎ (k ≡ i)
  split k less = by (cases_eq k i)
    where
      by : (k ≡ i) ⊎ (k ≡ i → ⊥) → (k < i) ⊎ (k ≡ i)
      by (inl e) = inr e
      by (inr ne) = inl (omega arith)

  earlier : (n k : ℕ) → k < i → slice_index (numbers ++ n ∷ []) k ≡ slice_index numbers k
  earlier n k less = get_or_append_left numbers (n ∷ []) 0 k (subst (λ m. k < m) (sym are.each) less)

  last : (n : ℕ) → slice_index (numbers ++ n ∷ []) i ≡ n
  last n = get_or_push numbers n 0 i are.each

  -- a class with a number
  pub AreNumbered-known : (n : ℕ) → number_of known (slice_index class i) ≡ Some n → AreNumbered class (i + 1) known (numbers ++ n ∷ []) count
  AreNumbered-known n e = record {
    size = are.size;
    each = length_push numbers n ∙ ap (λ m. m + 1) are.each;
    few = let few = are.few in omega arith;
    found = λ k less. found k (split k less);
    below = are.below;
    single = are.single;
    all = λ m less. let a = are.all m less in (a.0, (let below = a.1 in omega arith), earlier n a.0 a.1 ∙ a.2);
  }
    where
      found : (k : ℕ) → (k < i) ⊎ (k ≡ i) → number_of known (slice_index class k) ≡ Some (slice_index (numbers ++ n ∷ []) k)
      found k (inl less) = are.found k less ∙ ap Some (sym (earlier n k less))
      found k (inr same) = subst (λ j. number_of known (slice_index class j) ≡ Some (slice_index (numbers ++ n ∷ []) j)) (sym same) (e ∙ ap Some (sym (last n)))

  -- a class without one takes the next
  module _ (within : slice_index class i < length class) (unknown : number_of known (slice_index class i) ≡ None) where
    abbrev next : List (Option ℕ)
    next = set known (slice_index class i) (Some count)

    here : number_of next (slice_index class i) ≡ Some count
    here = get_or-set_same known (slice_index class i) (Some count) None (subst (λ m. slice_index class i < m) (sym are.size) within)

    elsewhere : (c : ℕ) → (c ≡ slice_index class i → ⊥) → number_of next c ≡ number_of known c
    elsewhere c ne = get_or-set_other known (slice_index class i) c (Some count) None ne

    kept : (c n : ℕ) → number_of known c ≡ Some n → number_of next c ≡ Some n
    kept c n e = elsewhere c (λ same. none-some n (sym unknown ∙ ap (number_of known) (sym same) ∙ e)) ∙ e

    cases : (c n : ℕ) → number_of next c ≡ Some n → ((n ≡ count) × (c ≡ slice_index class i)) ⊎ (number_of known c ≡ Some n)
    cases c n e = by (cases_eq c (slice_index class i))
      where
        by : (c ≡ slice_index class i) ⊎ (c ≡ slice_index class i → ⊥) → ((n ≡ count) × (c ≡ slice_index class i)) ⊎ (number_of known c ≡ Some n)
        by (inl same) = inl (same_Some n count (sym e ∙ ap (number_of next) same ∙ here), same)
        by (inr ne) = inr (sym (elsewhere c ne) ∙ e)

    below : (c n : ℕ) → ((n ≡ count) × (c ≡ slice_index class i)) ⊎ (number_of known c ≡ Some n) → n < count + 1
    below c n (inl (e, f)) = omega arith
    below c n (inr e) = let less = are.below c n e in omega arith

    single : (c d n : ℕ) → ((n ≡ count) × (c ≡ slice_index class i)) ⊎ (number_of known c ≡ Some n) → ((n ≡ count) × (d ≡ slice_index class i)) ⊎ (number_of known d ≡ Some n) → c ≡ d
    single c d n (inl (e, f)) (inl (g, h)) = f ∙ sym h
    single c d n (inl (e, f)) (inr g) = let less = are.below d n g in absurd (omega arith)
    single c d n (inr e) (inl (g, h)) = let less = are.below c n e in absurd (omega arith)
    single c d n (inr e) (inr f) = are.single c d n e f

    found : (k : ℕ) → (k < i) ⊎ (k ≡ i) → number_of next (slice_index class k) ≡ Some (slice_index (numbers ++ count ∷ []) k)
    found k (inl less) = kept (slice_index class k) (slice_index numbers k) (are.found k less) ∙ ap Some (sym (earlier count k less))
    found k (inr same) = subst (λ j. number_of next (slice_index class j) ≡ Some (slice_index (numbers ++ count ∷ []) j)) (sym same) (here ∙ ap Some (sym (last count)))

    all : (n : ℕ) → n < count + 1 → (k : ℕ) × (k < i + 1) × (slice_index (numbers ++ count ∷ []) k ≡ n)
    all n less = by (cases_eq n count)
      where
        by : (n ≡ count) ⊎ (n ≡ count → ⊥) → (k : ℕ) × (k < i + 1) × (slice_index (numbers ++ count ∷ []) k ≡ n)
        by (inl same) = (i, omega arith, last count ∙ sym same)
        by (inr ne) = let a = are.all n (omega arith) in (a.0, (let below = a.1 in omega arith), earlier count a.0 a.1 ∙ a.2)

    pub AreNumbered-new : AreNumbered class (i + 1) (set known (slice_index class i) (Some count)) (numbers ++ count ∷ []) (count + 1)
    AreNumbered-new = record {
      size = length-set known (slice_index class i) (Some count) ∙ are.size;
      each = length_push numbers count ∙ ap (λ m. m + 1) are.each;
      few = let few = are.few in omega arith;
      found = λ k less. found k (split k less);
      below = λ c n e. below c n (cases c n e);
      single = λ c d n e f. single c d n (cases c n e) (cases d n f);
      all = all;
    }

  pub IsNumbering-all : length class ≡ i → IsNumbering class numbers count
  IsNumbering-all whole = record {
    each = are.each ∙ sym whole;
    within = λ k less. are.below (slice_index class k) (slice_index numbers k) (at k less);
    same = λ k j less_k less_j. (
      (λ e. are.single (slice_index class k) (slice_index class j) (slice_index numbers k) (at k less_k) (at j less_j ∙ ap Some (sym e))),
      (λ e. same_Some (slice_index numbers k) (slice_index numbers j) (sym (at k less_k) ∙ ap (number_of known) e ∙ at j less_j)),
    );
    all = λ n less. let a = are.all n less in (a.0, subst (λ m. a.0 < m) (sym whole) a.1, a.2);
  }
    where
      at : (k : ℕ) → k < length class → number_of known (slice_index class k) ≡ Some (slice_index numbers k)
      at k less = are.found k (subst (λ m. k < m) whole less)
