-- The sites that define each location, definition by definition.
use Rattle.std.proofs.Common.{◌≡◌, ◌+◌, ◌<◌, ◌≤◌, ◌⊎◌, ◌↔◌, inl, inr, ℕ, ℤ, Bool, true, false, cond, List, [], ◌∷◌, ◌++◌, length, take, Some, refl, sym, ap, subst, ◌∙◌}
use Rattle.std.specs.Prelude.{Contains, slice_index_or, unwrap_or}
use Rattle.std.specs.Cmp.{signed_Decides}
use Rattle.std.specs.Map.{lookup}
use Rattle.std.specs.Ordering.{int_eq}
use Rattle.std.proofs.lemmas.List.{take_more, take_all}
use Rattle.std.proofs.lemmas.List.Elements.{Contains-append_left, Contains-push, Contains-push_cases}
use Rattle.rt_flow.specs.Bodies.{Body, Defines}
use Rattle.rt_flow.specs.Locations.{sites_at}
use Rattle.rt_flow.proofs.Targeting.{nothing_in}

pub int_equal : (a b : ℤ) → int_eq a b ≡ true → a ≡ b
int_equal a b e = (signed_Decides a b).0 e

pub int_self : (a : ℤ) → int_eq a a ≡ true
int_self a = (signed_Decides a a).1 refl

-- a site more at a location
abbrev pub IsNoted : List (ℤ × List ℕ) → List (ℤ × List ℕ) → ℕ → ℤ → Type 0
IsNoted old new site loc = (l : ℤ) (k : ℕ) → Contains (sites_at new l) k ↔ (Contains (sites_at old l) k ⊎ ((k ≡ site) × (l ≡ loc)))

pub noted : (old new : List (ℤ × List ℕ)) (site : ℕ) (loc key : ℤ) (sites more : List ℕ) → key ≡ loc → lookup (int_eq key) old ≡ Some sites → more ≡ sites ++ site ∷ []
    → ((q : ℤ) → lookup (int_eq q) new ≡ cond (int_eq key q) (Some more) (lookup (int_eq q) old)) → IsNoted old new site loc
noted old new site loc key sites more same known more_is updates l k = by (int_eq key l) refl
  where
    at_new : (b : Bool) → int_eq key l ≡ b → sites_at new l ≡ unwrap_or (cond b (Some more) (lookup (int_eq l) old)) []
    at_new b e = ap (λ o. unwrap_or o []) (updates l ∙ ap (λ t. cond t (Some more) (lookup (int_eq l) old)) e)

    by : (b : Bool) → int_eq key l ≡ b → Contains (sites_at new l) k ↔ (Contains (sites_at old l) k ⊎ ((k ≡ site) × (l ≡ loc)))
    by true e = (λ c. there (Contains-push_cases sites site k (subst (λ xs. Contains xs k) (at_new true e ∙ more_is) c)), λ h. subst (λ xs. Contains xs k) (sym (at_new true e ∙ more_is)) (back h))
      where
        here : key ≡ l
        here = int_equal key l e

        old_is : sites_at old l ≡ sites
        old_is = ap (sites_at old) (sym here) ∙ ap (λ o. unwrap_or o []) known

        there : Contains sites k ⊎ (site ≡ k) → Contains (sites_at old l) k ⊎ ((k ≡ site) × (l ≡ loc))
        there (inl c) = inl (subst (λ xs. Contains xs k) (sym old_is) c)
        there (inr f) = inr (sym f, sym here ∙ same)

        back : Contains (sites_at old l) k ⊎ ((k ≡ site) × (l ≡ loc)) → Contains (sites ++ site ∷ []) k
        back (inl c) = Contains-append_left sites (site ∷ []) k (subst (λ xs. Contains xs k) old_is c)
        back (inr (f, g)) = subst (Contains (sites ++ site ∷ [])) (sym f) (Contains-push sites site)
    by false e = (λ c. inl (subst (λ xs. Contains xs k) (at_new false e) c), λ h. subst (λ xs. Contains xs k) (sym (at_new false e)) (back h))
      where
        other : l ≡ loc → ⊥
        other f = clash (sym e ∙ ap (int_eq key) (f ∙ sym same) ∙ int_self key)
          where
            clash : false ≡ true → ⊥
            clash h = cc

        back : Contains (sites_at old l) k ⊎ ((k ≡ site) × (l ≡ loc)) → Contains (sites_at old l) k
        back (inl c) = c
        back (inr (f, g)) = absurd (other g)

-- the sites of the first definitions, so many
module _ (body : Body) where
  abbrev pub AreGrouped : ℕ → List (ℤ × List ℕ) → Type 0
  AreGrouped i groups = (l : ℤ) (k : ℕ) → Contains (sites_at groups l) k ↔ Contains (take i body.defs) (k, l)

  pub starts : (groups : List (ℤ × List ℕ)) → groups ≡ [] → AreGrouped 0 groups
  starts groups e l k = (λ c. nothing_in k (subst (λ gs. Contains (sites_at gs l) k) e c), λ c. nothing_in (k, l) c)

  pub goes_on : (i : ℕ) (old new : List (ℤ × List ℕ)) → AreGrouped i old → (items : List (ℕ × ℤ)) → items ≡ body.defs → i < length items → (none : ℕ × ℤ)
      → IsNoted old new (slice_index_or items i none).0 (slice_index_or items i none).1 → AreGrouped (i + 1) new
  goes_on i old new are items same less none noted l k =
      (λ c. subst (λ ds. Contains ds (k, l)) (sym more) (there ((noted l k).0 c)), λ c. (noted l k).1 (back (Contains-push_cases (take i body.defs) (slice_index_or items i none) (k, l) (subst (λ ds. Contains ds (k, l)) more c))))
    where
      more : take (i + 1) body.defs ≡ take i body.defs ++ slice_index_or items i none ∷ []
      more = take_more body.defs i none (subst (λ (ds : List (ℕ × ℤ)). i < length ds) same less) ∙ ap (λ (ds : List (ℕ × ℤ)). take i body.defs ++ slice_index_or ds i none ∷ []) (sym same)

      there : Contains (sites_at old l) k ⊎ ((k ≡ (slice_index_or items i none).0) × (l ≡ (slice_index_or items i none).1)) → Contains (take i body.defs ++ slice_index_or items i none ∷ []) (k, l)
      there (inl c) = Contains-append_left (take i body.defs) (slice_index_or items i none ∷ []) (k, l) ((are l k).0 c)
      there (inr (e, f)) = subst (Contains (take i body.defs ++ slice_index_or items i none ∷ [])) (λ j. (sym e j, sym f j)) (Contains-push (take i body.defs) (slice_index_or items i none))

      back : Contains (take i body.defs) (k, l) ⊎ (slice_index_or items i none ≡ (k, l)) → Contains (sites_at old l) k ⊎ ((k ≡ (slice_index_or items i none).0) × (l ≡ (slice_index_or items i none).1))
      back (inl c) = inl ((are l k).1 c)
      back (inr e) = inr (sym (ap (λ (d : ℕ × ℤ). d.0) e), sym (ap (λ (d : ℕ × ℤ). d.1) e))

  pub ends : (i : ℕ) (groups : List (ℤ × List ℕ)) → AreGrouped i groups → length body.defs ≤ i → (l : ℤ) (k : ℕ) → Contains (sites_at groups l) k ↔ Defines body k l
  ends i groups are whole l k = subst (λ (ds : List (ℕ × ℤ)). Contains (sites_at groups l) k ↔ Contains ds (k, l)) (take_all i body.defs whole) (are l k)
