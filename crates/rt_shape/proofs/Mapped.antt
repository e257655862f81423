-- A list of keys with numbers carried over entry by entry to a map of other keys and numbers.
use Rattle.std.proofs.Common.{◌≡◌, ℕ, ◌+◌, ◌<◌, ◌⊎◌, inl, inr, Bool, true, false, cond, Option, Some, List, [], length, Contains, refl, sym, ap, subst, ◌∙◌, arith}
use Rattle.std.specs.Prelude.{slice_get}
use Rattle.std.specs.Map.{lookup}
use Rattle.std.proofs.lemmas.Bool.{cases_eq}
use Rattle.std.proofs.lemmas.Option.{slice_get-get_or, none-some, same_Some}
use Rattle.std.proofs.lemmas.Map.Views.{Contains-from_lookup}

pub entry_place : {E : Type 0} (es : List E) (e : E) → Contains es e → (j : ℕ) × (j < length es) × (slice_get es j ≡ Some e)
entry_place es e (j, less, at) = (j, less, slice_get-get_or es j e less ∙ ap Some at)

module _ {K J : Type 0} (same : K → K → Bool) (same_equal : (p q : K) → same p q ≡ true → p ≡ q) (eq : J → J → Bool) (equal : (j k : J) → eq j k ≡ true → j ≡ k) (self : (j : J) → eq j j ≡ true)
    (key : K → J) (value : ℕ → ℕ) (entries : List (K × ℕ)) where
  -- an entry at a place
  abbrev pub EntryAt : ℕ → K → ℕ → Type 0
  EntryAt i q n = ◌≡◌ {A = Option (K × ℕ)} (slice_get entries i) (Some (q, n))

  -- the entries before place i are carried over, and nothing else is
  pub record IsCarried (i : ℕ) (made : List (J × ℕ)) : Type 0 where
    pub found : (j : ℕ) (q : K) (n : ℕ) → j < i → EntryAt j q n → lookup (same q) entries ≡ Some n
    pub done : (j : ℕ) (q : K) (n : ℕ) → j < i → EntryAt j q n → lookup (eq (key q)) made ≡ Some (value n)
    pub from : (k : J) (v : ℕ) → lookup (eq k) made ≡ Some v → (q : K) × (n : ℕ) × (key q ≡ k) × (lookup (same q) entries ≡ Some n) × (value n ≡ v)

  pub IsCarried-none : IsCarried 0 []
  IsCarried-none = record {
    found = λ j q n less e. absurd (omega arith);
    done = λ j q n less e. absurd (omega arith);
    from = λ k v e. absurd (none-some v e);
  }

  module _ (coherent : (p q : K) (m n : ℕ) → key p ≡ key q → lookup (same p) entries ≡ Some m → lookup (same q) entries ≡ Some n → value m ≡ value n)
      (i : ℕ) (made after : List (J × ℕ)) (carried : IsCarried i made) (q : K) (n : ℕ) (entry : EntryAt i q n) (there : lookup (same q) entries ≡ Some n)
      (updates : (k : J) → lookup (eq k) after ≡ cond (eq (key q) k) (Some (value n)) (lookup (eq k) made)) where
    same_entry : (p : K) (m : ℕ) → EntryAt i p m → ◌≡◌ {A = K × ℕ} (q, n) (p, m)
    same_entry p m e = pair_same (sym entry ∙ e)
      where
        pair_same : ◌≡◌ {A = Option (K × ℕ)} (Some (q, n)) (Some (p, m)) → ◌≡◌ {A = K × ℕ} (q, n) (p, m)
        pair_same f = cc

    at : (b : Bool) (k : J) → eq (key q) k ≡ b → lookup (eq k) after ≡ cond b (Some (value n)) (lookup (eq k) made)
    at b k e = updates k ∙ ap (λ c. cond c (Some (value n)) (lookup (eq k) made)) e

    here : lookup (eq (key q)) after ≡ Some (value n)
    here = at true (key q) (self (key q))

    done_before : (p : K) (m : ℕ) → lookup (same p) entries ≡ Some m → lookup (eq (key p)) made ≡ Some (value m) → lookup (eq (key p)) after ≡ Some (value m)
    done_before p m e d = by (eq (key q) (key p)) refl
      where
        by : (b : Bool) → eq (key q) (key p) ≡ b → lookup (eq (key p)) after ≡ Some (value m)
        by true f = at true (key p) f ∙ ap Some (coherent q p n m (equal (key q) (key p) f) there e)
        by false f = at false (key p) f ∙ d

    split : (j : ℕ) → j < i + 1 → (j < i) ⊎ (j ≡ i)
    split j less = by (cases_eq j i)
      where
        by : (j ≡ i) ⊎ (j ≡ i → ⊥) → (j < i) ⊎ (j ≡ i)
        by (inl e) = inr e
        by (inr ne) = inl (omega arith)

    done : (j : ℕ) (p : K) (m : ℕ) → (j < i) ⊎ (j ≡ i) → EntryAt j p m → lookup (eq (key p)) after ≡ Some (value m)
    done j p m (inl less) e = done_before p m (carried.found j p m less e) (carried.done j p m less e)
    done j p m (inr f) e = subst (λ (x : K × ℕ). lookup (eq (key x.0)) after ≡ Some (value x.1)) (same_entry p m (subst (λ h. EntryAt h p m) f e)) here

    found : (j : ℕ) (p : K) (m : ℕ) → (j < i) ⊎ (j ≡ i) → EntryAt j p m → lookup (same p) entries ≡ Some m
    found j p m (inl less) e = carried.found j p m less e
    found j p m (inr f) e = subst (λ (x : K × ℕ). lookup (same x.0) entries ≡ Some x.1) (same_entry p m (subst (λ h. EntryAt h p m) f e)) there

    from : (k : J) (v : ℕ) → lookup (eq k) after ≡ Some v → (p : K) × (m : ℕ) × (key p ≡ k) × (lookup (same p) entries ≡ Some m) × (value m ≡ v)
    from k v e = by (eq (key q) k) refl
      where
        by : (b : Bool) → eq (key q) k ≡ b → (p : K) × (m : ℕ) × (key p ≡ k) × (lookup (same p) entries ≡ Some m) × (value m ≡ v)
        by true f = (q, n, equal (key q) k f, there, same_Some (value n) v (sym (at true k f) ∙ e))
        by false f = carried.from k v (sym (at false k f) ∙ e)

    pub IsCarried-more : IsCarried (i + 1) after
    IsCarried-more = record {
      found = λ j p m less e. found j p m (split j less) e;
      done = λ j p m less e. done j p m (split j less) e;
      from = from;
    }

  pub IsCarried-all : (i : ℕ) (made : List (J × ℕ)) → IsCarried i made → length entries ≡ i → (q : K) (n : ℕ) → lookup (same q) entries ≡ Some n → lookup (eq (key q)) made ≡ Some (value n)
  IsCarried-all i made carried all q n e =
      let place = entry_place entries (q, n) (Contains-from_lookup same_equal q n entries e) in
      carried.done place.0 q n (subst (λ h. place.0 < h) all place.1) place.2
