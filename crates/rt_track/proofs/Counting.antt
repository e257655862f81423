-- Lists of the numbers from 0.
use Rattle.std.proofs.Common.{◌≡◌, ◌+◌, ◌<◌, ◌≤◌, ◌⊎◌, inl, inr, ℕ, List, [], ◌∷◌, ◌++◌, sym, subst, arith}
use Rattle.std.specs.Prelude.{Contains}
use Rattle.std.proofs.lemmas.Bool.{cases_lt}
use Rattle.std.proofs.lemmas.List.Elements.{Contains-append_left, Contains-push, Contains-push_cases}

module _ (old new : List ℕ) (n : ℕ) (new_is : new ≡ old ++ n ∷ []) where
  -- one more number makes it all those below the next
  pub one_more : ((k : ℕ) → k < n → Contains old k) → (k : ℕ) → k < n + 1 → Contains new k
  one_more all k less = subst (λ xs. Contains xs k) (sym new_is) (by (cases_lt k n))
    where
      by : (k < n) ⊎ (n ≤ k) → Contains (old ++ n ∷ []) k
      by (inl h) = Contains-append_left old (n ∷ []) k (all k h)
      by (inr h) = let e : n ≡ k = omega arith in subst (Contains (old ++ n ∷ [])) e (Contains-push old n)

  -- and no others
  pub still_below : ((k : ℕ) → Contains old k → k < n) → (k : ℕ) → Contains new k → k < n + 1
  still_below within k c = by (Contains-push_cases old n k (subst (λ xs. Contains xs k) new_is c))
    where
      by : Contains old k ⊎ (n ≡ k) → k < n + 1
      by (inl h) = let less = within k h in omega arith
      by (inr e) = omega arith
