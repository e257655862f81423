-- Lists of lists, to one of which an item was added.
use Rattle.std.proofs.Common.{◌≡◌, ◌<◌, ◌⊎◌, inl, inr, ℕ, List, [], ◌∷◌, ◌++◌, length, set, sym, subst}
use Rattle.std.specs.Prelude.{Contains, slice_index_or}
use Rattle.std.proofs.lemmas.Bool.{cases_eq}
use Rattle.std.proofs.lemmas.List.{get_or-set_same, get_or-set_other}
use Rattle.std.proofs.lemmas.List.Elements.{Contains-append_left, Contains-push, Contains-push_cases}

module _ {X : Type 0} (lists : List (List X)) (n : ℕ) (more : n < length lists) (x : X) where
  -- the lists, of which one has an item more
  abbrev pub pushed : List (List X)
  pushed = set lists n (slice_index_or lists n [] ++ x ∷ [])

  pub pushed_at : slice_index_or pushed n [] ≡ slice_index_or lists n [] ++ x ∷ []
  pushed_at = get_or-set_same lists n (slice_index_or lists n [] ++ x ∷ []) [] more

  pub pushed_other : (k : ℕ) → (k ≡ n → ⊥) → slice_index_or pushed k [] ≡ slice_index_or lists k []
  pushed_other k other = get_or-set_other lists n k (slice_index_or lists n [] ++ x ∷ []) [] other

  pub pushed_kept : (k : ℕ) (y : X) → Contains (slice_index_or lists k []) y → Contains (slice_index_or pushed k []) y
  pushed_kept k y c = by (cases_eq k n)
    where
      by : (k ≡ n) ⊎ (k ≡ n → ⊥) → Contains (slice_index_or pushed k []) y
      by (inl e) = subst (λ m. Contains (slice_index_or pushed m []) y) (sym e) (subst (λ xs. Contains xs y) (sym pushed_at) (Contains-append_left (slice_index_or lists n []) (x ∷ []) y (subst (λ m. Contains (slice_index_or lists m []) y) e c)))
      by (inr other) = subst (λ xs. Contains xs y) (sym (pushed_other k other)) c

  pub pushed_here : Contains (slice_index_or pushed n []) x
  pushed_here = subst (λ xs. Contains xs x) (sym pushed_at) (Contains-push (slice_index_or lists n []) x)

  pub pushed_cases : (k : ℕ) (y : X) → Contains (slice_index_or pushed k []) y → Contains (slice_index_or lists k []) y ⊎ ((k ≡ n) × (x ≡ y))
  pushed_cases k y c = by (cases_eq k n)
    where
      by : (k ≡ n) ⊎ (k ≡ n → ⊥) → Contains (slice_index_or lists k []) y ⊎ ((k ≡ n) × (x ≡ y))
      by (inl e) = here (Contains-push_cases (slice_index_or lists n []) x y (subst (λ xs. Contains xs y) pushed_at (subst (λ m. Contains (slice_index_or pushed m []) y) e c)))
        where
          here : Contains (slice_index_or lists n []) y ⊎ (x ≡ y) → Contains (slice_index_or lists k []) y ⊎ ((k ≡ n) × (x ≡ y))
          here (inl h) = inl (subst (λ m. Contains (slice_index_or lists m []) y) (sym e) h)
          here (inr f) = inr (e, f)
      by (inr other) = inl (subst (λ xs. Contains xs y) (pushed_other k other) c)
