-- Classes of locations, definition by definition.
use Rattle.std.proofs.Common.{◌≡◌, ◌+◌, ◌<◌, ◌≤◌, ◌⊎◌, ◌↔◌, inl, inr, ℕ, ℤ, Bool, true, false, cond, List, [], ◌∷◌, ◌++◌, length, take, Option, None, Some, refl, sym, ap, subst, ◌∙◌, arith}
use Rattle.std.specs.Prelude.{All, Contains, IsSome, is_some, slice_index_or, unwrap_or}
use Rattle.std.specs.List.Sorted.{IsStrictlyIncreasing}
use Rattle.std.specs.Map.{lookup}
use Rattle.std.specs.Ordering.{int_eq}
use Rattle.std.proofs.lemmas.List.{take_more, take_all}
use Rattle.std.proofs.lemmas.List.Elements.{Contains-get_or, Contains-push_cases}
use Rattle.rt_flow.specs.Bodies.{Body, Defines}
use Rattle.rt_flow.specs.Locations.{sites_at, AreSitesOf, AreClasses}
use Rattle.rt_flow.proofs.Grouping.{int_equal, int_self}
use Rattle.rt_flow.proofs.Numbered.{kept, longer, all_more}
use Rattle.rt_flow.proofs.Targeting.{nothing_in}

-- the classes of the locations of the first definitions, so many
pub record IsClassing (body : Body) (i : ℕ) (known : List (ℤ × ℕ)) (none : ℕ) (classes : List (List ℕ)) : Type 0 where
  pub none_in : none < length classes
  pub none_is : slice_index_or classes none [] ≡ []
  pub sound : (l : ℤ) (c : ℕ) → lookup (int_eq l) known ≡ Some c → (c < length classes) × AreSitesOf body l (slice_index_or classes c [])
  pub all : (k : ℕ) (l : ℤ) → Contains (take i body.defs) (k, l) → IsSome (lookup (int_eq l) known)
  pub ascending : All IsStrictlyIncreasing classes

none_some : {X A : Type 0} (x : X) → None ≡ Some x → A
none_some x e = absurd cc

nil_ascending : IsStrictlyIncreasing []
nil_ascending k less = absurd (omega arith)

module _ (body : Body) where
  -- the class of no sites
  pub starts : (known : List (ℤ × ℕ)) (none : ℕ) (classes : List (List ℕ)) → known ≡ [] → none < length classes → slice_index_or classes none [] ≡ [] → ([] ≡ classes) ⊎ (classes ≡ [] ++ [] ∷ []) → IsClassing body 0 known none classes
  starts known none classes empty within is added = record {
    none_in = within;
    none_is = is;
    sound = λ l c e. none_some c (sym (ap (lookup (int_eq l)) empty) ∙ e);
    all = λ k l c. nothing_in (k, l) c;
    ascending = ascending added;
  }
    where
      ascending : ([] ≡ classes) ⊎ (classes ≡ [] ++ [] ∷ []) → All IsStrictlyIncreasing classes
      ascending (inl e) = subst (All IsStrictlyIncreasing) e (λ k d less. absurd (omega arith))
      ascending (inr e) = all_more [] classes [] IsStrictlyIncreasing (inr e) (λ k d less. absurd (omega arith)) nil_ascending

  module _ (i : ℕ) (known : List (ℤ × ℕ)) (none : ℕ) (classes : List (List ℕ)) (is : IsClassing body i known none classes)
      (items : List (ℕ × ℤ)) (same : items ≡ body.defs) (less : i < length items) (default : ℕ × ℤ) where
    abbrev def : ℕ × ℤ
    def = slice_index_or items i default

    more_defs : take (i + 1) body.defs ≡ take i body.defs ++ slice_index_or items i default ∷ []
    more_defs = take_more body.defs i default (subst (λ (ds : List (ℕ × ℤ)). i < length ds) same less) ∙ ap (λ (ds : List (ℕ × ℤ)). take i body.defs ++ slice_index_or ds i default ∷ []) (sym same)

    def_or : (k : ℕ) (l : ℤ) → Contains (take (i + 1) body.defs) (k, l) → Contains (take i body.defs) (k, l) ⊎ (slice_index_or items i default ≡ (k, l))
    def_or k l c = Contains-push_cases (take i body.defs) (slice_index_or items i default) (k, l) (subst (λ ds. Contains ds (k, l)) more_defs c)

    a_def : Defines body def.0 def.1
    a_def = subst (λ (ds : List (ℕ × ℤ)). Contains ds (slice_index_or items i default)) same (Contains-get_or items i default less)

    all_of : (after : List (ℤ × ℕ)) → ((l : ℤ) → IsSome (lookup (int_eq l) known) → IsSome (lookup (int_eq l) after)) → IsSome (lookup (int_eq def.1) after)
        → (k : ℕ) (l : ℤ) → Contains (take (i + 1) body.defs) (k, l) → IsSome (lookup (int_eq l) after)
    all_of after old here k l c = by (def_or k l c)
      where
        by : Contains (take i body.defs) (k, l) ⊎ (slice_index_or items i default ≡ (k, l)) → IsSome (lookup (int_eq l) after)
        by (inl h) = old l (is.all k l h)
        by (inr e) = subst (λ (d : ℕ × ℤ). IsSome (lookup (int_eq d.1) after)) e here

    -- a location that has its class
    pub has_class : (key : ℤ) → key ≡ def.1 → is_some (lookup (int_eq key) known) ≡ true → IsClassing body (i + 1) known none classes
    has_class key e some = record {
      none_in = is.none_in;
      none_is = is.none_is;
      sound = is.sound;
      all = all_of known (λ l h. h) (subst (λ z. IsSome (lookup (int_eq z) known)) e some);
      ascending = is.ascending;
    }

    module _ (groups : List (ℤ × List ℕ)) (grouped : (l : ℤ) (k : ℕ) → Contains (sites_at groups l) k ↔ Defines body k l) where
      -- a location of a definition has sites
      pub has_sites : (key : ℤ) → key ≡ def.1 → lookup (int_eq key) groups ≡ None → ⊥
      has_sites key e absent =
          nothing_in def.0 (subst (λ o. Contains (unwrap_or o []) def.0) absent (subst (λ z. Contains (sites_at groups z) def.0) (sym e) ((grouped def.1 def.0).1 a_def)))

      module _ (key : ℤ) (at_key : key ≡ def.1) (sites : List ℕ) (found : lookup (int_eq key) groups ≡ Some sites) (list : List ℕ) (rises : IsStrictlyIncreasing list)
          (one : (k : ℕ) → Contains list k ↔ Contains sites k) (classes' : List (List ℕ)) (added : (classes' ≡ classes) ⊎ (classes' ≡ classes ++ list ∷ [])) (n : ℕ) (within : n < length classes') (number : slice_index_or classes' n [] ≡ list)
          (known' : List (ℤ × ℕ)) (key' : ℤ) (at_key' : key' ≡ def.1) (updates : (q : ℤ) → lookup (int_eq q) known' ≡ cond (int_eq key' q) (Some n) (lookup (int_eq q) known)) where
        sites_is : sites_at groups def.1 ≡ sites
        sites_is = ap (sites_at groups) (sym at_key) ∙ ap (λ o. unwrap_or o []) found

        list_of : AreSitesOf body def.1 list
        list_of = record {
          ascending = rises;
          defining = λ k. (
            λ c. (grouped def.1 k).0 (subst (λ xs. Contains xs k) (sym sites_is) ((one k).0 c)),
            λ d. (one k).1 (subst (λ xs. Contains xs k) sites_is ((grouped def.1 k).1 d)),
          );
        }

        here : lookup (int_eq def.1) known' ≡ Some n
        here = updates def.1 ∙ ap (λ b. cond b (Some n) (lookup (int_eq def.1) known)) (ap (λ z. int_eq z def.1) at_key' ∙ int_self def.1)

        some_old : (l : ℤ) → IsSome (lookup (int_eq l) known) → IsSome (lookup (int_eq l) known')
        some_old l some = subst IsSome (sym (updates l)) (by (int_eq key' l))
          where
            by : (b : Bool) → IsSome (cond b (Some n) (lookup (int_eq l) known))
            by true = refl
            by false = some

        sound : (l : ℤ) (c : ℕ) → lookup (int_eq l) known' ≡ Some c → (c < length classes') × AreSitesOf body l (slice_index_or classes' c [])
        sound l c e = by (int_eq key' l) refl (sym (updates l) ∙ e)
          where
            same_number : Some n ≡ Some c → n ≡ c
            same_number f = cc

            by : (b : Bool) → int_eq key' l ≡ b → cond b (Some n) (lookup (int_eq l) known) ≡ Some c → (c < length classes') × AreSitesOf body l (slice_index_or classes' c [])
            by true f g =
                let at_l : def.1 ≡ l = sym at_key' ∙ int_equal key' l f in
                subst (λ m. (m < length classes') × AreSitesOf body l (slice_index_or classes' m [])) (same_number g) (within, subst (λ z. AreSitesOf body z (slice_index_or classes' n [])) at_l (subst (AreSitesOf body def.1) (sym number) list_of))
            by false f g =
                let old = is.sound l c g in
                let lengths = longer classes classes' list added in
                (omega (arith, old.0), subst (AreSitesOf body l) (sym (kept classes classes' list added c old.0)) old.1)

        -- a location that gets its class
        pub gets_class : IsClassing body (i + 1) known' none classes'
        gets_class = record {
          none_in = let lengths = longer classes classes' list added in omega (arith, is.none_in);
          none_is = kept classes classes' list added none is.none_in ∙ is.none_is;
          sound = sound;
          all = all_of known' some_old (subst IsSome (sym here) refl);
          ascending = all_more classes classes' list IsStrictlyIncreasing added is.ascending rises;
        }

  -- each location has its class
  pub ends : (i : ℕ) (known : List (ℤ × ℕ)) (none : ℕ) (classes : List (List ℕ)) → IsClassing body i known none classes → length body.defs ≤ i → AreClasses body known none classes
  ends i known none classes is whole = record { within = λ l. (by l (lookup (int_eq l) known) refl).0; sites = λ l. (by l (lookup (int_eq l) known) refl).1 }
    where
      undefined : (l : ℤ) → lookup (int_eq l) known ≡ None → (k : ℕ) → Defines body k l → Contains [] k
      undefined l e k d = clash (sym (is.all k l (subst (λ (ds : List (ℕ × ℤ)). Contains ds (k, l)) (sym (take_all i body.defs whole)) d)) ∙ ap is_some e)
        where
          clash : true ≡ false → Contains [] k
          clash h = absurd cc

      by : (l : ℤ) (o : Option ℕ) → lookup (int_eq l) known ≡ o → (unwrap_or o none < length classes) × AreSitesOf body l (slice_index_or classes (unwrap_or o none) [])
      by l (Some c) e = is.sound l c e
      by l None e = (is.none_in, subst (AreSitesOf body l) (sym is.none_is) record { ascending = nil_ascending; defining = λ k. (λ c. nothing_in k c, undefined l e k) })
