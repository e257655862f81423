-- Keys inserted one after the other.
use Rattle.std.proofs.Common.{◌≡◌, ◌≢◌, ◌<◌, ℕ, ◌⊎◌, inl, inr, Bool, true, false, List, [], ◌∷◌, length, get_or, AllPairs, Contains, fold, refl, sym, ap, subst, ◌∙◌, true≢false}
use Rattle.std.specs.List.{list_any}
use Rattle.std.proofs.lemmas.List.Elements.{Contains-append_left, Contains-append_cases}
use Rattle.std.proofs.lemmas.List.Folds.{list_any_at}
use Rattle.std.proofs.lemmas.List.Quantifiers.{all_pairs_push}
use Rattle.indexmap.specs.IndexSet.{insert_key}
use Rattle.indexmap.proofs.CallerLemmas.{Contains-insert_key}
use Rattle.rt_base.proofs.Lists.{Contains-none, Contains-here, Contains-there, Contains-cons_cases}

module _ {K : Type 0} (eq : K → K → Bool) where
  insert-keeps : (ks : List K) (k x : K) → Contains ks x → Contains (insert_key eq ks k) x
  insert-keeps ks k x h = by (list_any (eq k) ks) refl
    where
      by : (b : Bool) → list_any (eq k) ks ≡ b → Contains (insert_key eq ks k) x
      by true e = rw e h
      by false e = rw e (Contains-append_left ks (k ∷ []) x h)

  insert-source : (ks : List K) (k x : K) → Contains (insert_key eq ks k) x → Contains ks x ⊎ (k ≡ x)
  insert-source ks k x h = by (list_any (eq k) ks) refl
    where
      last : Contains ks x ⊎ Contains (k ∷ []) x → Contains ks x ⊎ (k ≡ x)
      last (inl c) = inl c
      last (inr c) = only (Contains-cons_cases k [] x c)
        where
          only : (k ≡ x) ⊎ Contains [] x → Contains ks x ⊎ (k ≡ x)
          only (inl e) = inr e
          only (inr c) = absurd (Contains-none x c)

      by : (b : Bool) → list_any (eq k) ks ≡ b → Contains ks x ⊎ (k ≡ x)
      by true e = inl (rw e at h)
      by false e = last (Contains-append_cases ks (k ∷ []) x (rw e at h))

  -- the keys that were there stay
  pub inserted-stays : (xs ks : List K) (x : K) → Contains ks x → Contains (fold (insert_key eq) ks xs) x
  inserted-stays [] ks x h = h
  inserted-stays (k ∷ xs) ks x h = inserted-stays xs (insert_key eq ks k) x (insert-keeps ks k x h)

  -- each key was there or was inserted
  pub inserted-source : (xs ks : List K) (x : K) → Contains (fold (insert_key eq) ks xs) x → Contains ks x ⊎ Contains xs x
  inserted-source [] ks x h = inl h
  inserted-source (k ∷ xs) ks x h = by (inserted-source xs (insert_key eq ks k) x h)
    where
      first : Contains ks x ⊎ (k ≡ x) → Contains ks x ⊎ Contains (k ∷ xs) x
      first (inl c) = inl c
      first (inr e) = inr (subst (Contains (k ∷ xs)) e (Contains-here k xs))

      by : Contains (insert_key eq ks k) x ⊎ Contains xs x → Contains ks x ⊎ Contains (k ∷ xs) x
      by (inl c) = first (insert-source ks k x c)
      by (inr c) = inr (Contains-there k xs x c)

  module _ (same : (x y : K) → eq x y ≡ true → x ≡ y) where
    -- each key that is inserted is there
    pub inserted-has : (xs ks : List K) (x : K) → Contains xs x → Contains (fold (insert_key eq) ks xs) x
    inserted-has [] ks x h = absurd (Contains-none x h)
    inserted-has (k ∷ xs) ks x h = by (Contains-cons_cases k xs x h) (inserted-has xs (insert_key eq ks k) x)
      where
        by : (k ≡ x) ⊎ Contains xs x → (Contains xs x → Contains (fold (insert_key eq) (insert_key eq ks k) xs) x) → Contains (fold (insert_key eq) (insert_key eq ks k) xs) x
        by (inl e) rest = inserted-stays xs (insert_key eq ks k) x (subst (Contains (insert_key eq ks k)) e (Contains-insert_key eq same ks k))
        by (inr c) rest = rest c

  module _ (self : (x : K) → eq x x ≡ true) where
    none-equal : (ks : List K) (k : K) (i : ℕ) (d : K) → list_any (eq k) ks ≡ false → i < length ks → get_or ks i d ≢ k
    none-equal ks k i d e lt f = true≢false (sym (list_any_at (eq k) ks i d lt (ap (eq k) f ∙ self k)) ∙ e)

    insert-distinct : (ks : List K) (k : K) → AllPairs (λ x y. x ≢ y) ks → AllPairs (λ x y. x ≢ y) (insert_key eq ks k)
    insert-distinct ks k h = by (list_any (eq k) ks) refl
      where
        by : (b : Bool) → list_any (eq k) ks ≡ b → AllPairs (λ x y. x ≢ y) (insert_key eq ks k)
        by true e = rw e h
        by false e = rw e (all_pairs_push (λ x y. x ≢ y) ks k h (λ i d lt. none-equal ks k i d e lt))

    -- no two keys are the same
    pub inserted-distinct : (xs ks : List K) → AllPairs (λ x y. x ≢ y) ks → AllPairs (λ x y. x ≢ y) (fold (insert_key eq) ks xs)
    inserted-distinct [] ks h = h
    inserted-distinct (k ∷ xs) ks h = inserted-distinct xs (insert_key eq ks k) (insert-distinct ks k h)
