-- Counts of states with their places: what a place tells of what is known, and what a count more changes.
use Rattle.std.proofs.Common.{◌≡◌, ℕ, ◌+◌, ◌*◌, ◌<◌, ◌⊎◌, inl, inr, Bool, true, false, cond, List, [], ◌∷◌, ◌++◌, Option, Some, None, zero, suc, length, length-append, get_or, set, refl, sym, ap, subst, ◌∙◌, arith, get_or-set_same, get_or-set_other}
use Rattle.std.specs.Prelude.{slice_get}
use Rattle.std.specs.Map.{lookup}
use Rattle.std.proofs.Math.ListN.{get_or-append, length-set}
use Rattle.std.proofs.lemmas.Bool.{cases_eq}
use Rattle.std.proofs.lemmas.List.{get_or_default, get_or_push}
use Rattle.std.proofs.lemmas.Map.Entries.{lookup_head, lookup_tail}
use Rattle.std.proofs.lemmas.Option.{get_or_from_slice_get}
use Rattle.rt_sat.specs.declared.state.State.{State}
use Rattle.rt_sat.specs.Counts.{digit_of}
use Rattle.rt_sat.specs.Reached.{key_of, ArePlaces}
use Rattle.rt_sat.specs.Searches.{state_eq}
use Rattle.rt_sat.proofs.Searching.{state_equal, state_self}
use Rattle.rt_sat.proofs.Pushed.{known_entry}

pub no_entry : State × ℕ
no_entry = (record { variable = 0; contra = false }, 0)

key_parts : (a b : ℕ) (x y : Bool) → 2 * a + digit_of x ≡ 2 * b + digit_of y → (a ≡ b) × (x ≡ y)
key_parts a b true true e = (omega (arith, e), refl)
key_parts a b false false e = (omega (arith, e), refl)
key_parts a b true false e = absurd (omega (arith, e))
key_parts a b false true e = absurd (omega (arith, e))

pub key_one : (s t : State) → key_of s ≡ key_of t → s ≡ t
key_one s t e =
    let p : (s.variable ≡ t.variable) × (s.contra ≡ t.contra) = key_parts s.variable t.variable s.contra t.contra e in
    λ i. record { variable = p.0 i; contra = p.1 i }

get_or_any : (es : List (State × ℕ)) (i : ℕ) → i < length es → (d : State × ℕ) → get_or es i no_entry ≡ get_or es i d
get_or_any es i h d = get_or_default es i no_entry d h

-- a state with a count
abbrev pub Has : List (State × ℕ) → State → ℕ → Type 0
Has es s k = (i : ℕ) × (i < length es) × (get_or es i no_entry ≡ (s, k))

has_lookup : (es : List (State × ℕ)) (s : State) (k : ℕ) → lookup (state_eq s) es ≡ Some k → Has es s k
has_lookup es s k h =
    let p : (i : ℕ) × (i < length es) × (slice_get es i ≡ Some (s, k)) = known_entry es s k h in
    (p.0, p.1, get_or_from_slice_get es p.0 (s, k) no_entry p.2)

lookup_there : (es : List (State × ℕ)) (i : ℕ) (s : State) → i < length es → (get_or es i no_entry).0 ≡ s → lookup (state_eq s) es ≡ None → ⊥
lookup_there [] i s h e n = absurd (omega (arith, h))
lookup_there (x ∷ es) zero s h e n =
    let f : Some x.1 ≡ None = sym (lookup_head (state_eq s) x es (ap (state_eq s) e ∙ state_self s)) ∙ n in
    absurd (cc)
lookup_there (x ∷ es) (suc i) s h e n = by (lookup_there es i s (omega (arith, h)) e) (state_eq s x.0) refl
  where
    by : (lookup (state_eq s) es ≡ None → ⊥) → (b : Bool) → state_eq s x.0 ≡ b → ⊥
    by more true f = let g : Some x.1 ≡ None = sym (lookup_head (state_eq s) x es f) ∙ n in absurd (cc)
    by more false f = more (sym (lookup_tail (state_eq s) x es f) ∙ n)

module _ (places : List ℕ) (es : List (State × ℕ)) (are : ArePlaces places es) where
  place_of : (s : State) (k : ℕ) (h : Has es s k) → get_or places (key_of s) 0 ≡ h.0
  place_of s k h = ap (λ (e : State × ℕ). get_or places (key_of e.0) 0) (sym h.2) ∙ are h.0 h.1 no_entry

  has_place : (s : State) (i : ℕ) → i < length es → (get_or es i no_entry).0 ≡ s → get_or places (key_of s) 0 ≡ i
  has_place s i h e = ap (λ t. get_or places (key_of t) 0) (sym e) ∙ are i h no_entry

  -- what stands at a place is known
  lookup_place : (s : State) (i : ℕ) → i < length es → (get_or es i no_entry).0 ≡ s → lookup (state_eq s) es ≡ Some (get_or es i no_entry).1
  lookup_place s i h e = by (lookup (state_eq s) es) refl
    where
      by : (r : Option ℕ) → lookup (state_eq s) es ≡ r → lookup (state_eq s) es ≡ Some (get_or es i no_entry).1
      by None f = absurd (lookup_there es i s h e f)
      by (Some v) f =
          let p : Has es s v = has_lookup es s v f in
          let j : p.0 ≡ i = sym (place_of s v p) ∙ has_place s i h e in
          f ∙ ap (λ (x : State × ℕ). Some x.1) (sym p.2 ∙ ap (λ n. get_or es n no_entry) j)

  pub lookup_at : (s : State) (i : ℕ) → i < length es → (d : State × ℕ) → (get_or es i d).0 ≡ s → lookup (state_eq s) es ≡ Some (get_or es i d).1
  lookup_at s i h d e = lookup_place s i h (ap (λ (x : State × ℕ). x.0) (get_or_any es i h d) ∙ e) ∙ ap (λ (x : State × ℕ). Some x.1) (get_or_any es i h d)

  lookup_has : (s : State) (k : ℕ) → Has es s k → lookup (state_eq s) es ≡ Some k
  lookup_has s k p = lookup_place s p.0 p.1 (ap (λ (x : State × ℕ). x.0) p.2) ∙ ap (λ (x : State × ℕ). Some x.1) p.2

  -- and what is not at its place is not known
  pub lookup_absent : (s : State) → (get_or places (key_of s) 0 < length es → ((d : State × ℕ) → (get_or es (get_or places (key_of s) 0) d).0 ≡ s) → ⊥) → lookup (state_eq s) es ≡ None
  lookup_absent s none = by (lookup (state_eq s) es) refl
    where
      by : (r : Option ℕ) → lookup (state_eq s) es ≡ r → lookup (state_eq s) es ≡ None
      by None f = f
      by (Some v) f =
          let p : Has es s v = has_lookup es s v f in
          let j : get_or places (key_of s) 0 ≡ p.0 = place_of s v p in
          absurd (none (subst (λ n. n < length es) (sym j) p.1) (λ d. ap (λ n. (get_or es n d).0) j ∙ ap (λ (x : State × ℕ). x.0) (sym (get_or_any es p.0 p.1 d) ∙ p.2)))

-- lists with the same counts of a state
lookup_same : (a b : List ℕ) (es fs : List (State × ℕ)) → ArePlaces a es → ArePlaces b fs → (q : State) → ((k : ℕ) → Has es q k → Has fs q k) → ((k : ℕ) → Has fs q k → Has es q k) → lookup (state_eq q) fs ≡ lookup (state_eq q) es
lookup_same a b es fs ea fb q forth back = by (lookup (state_eq q) es) refl (lookup (state_eq q) fs) refl
  where
    by : (r : Option ℕ) → lookup (state_eq q) es ≡ r → (o : Option ℕ) → lookup (state_eq q) fs ≡ o → lookup (state_eq q) fs ≡ lookup (state_eq q) es
    by (Some v) f o g = lookup_has b fs fb q v (forth v (has_lookup es q v f)) ∙ sym f
    by None f None g = g ∙ sym f
    by None f (Some v) g = let h : ◌≡◌ {A = Option ℕ} None (Some v) = sym f ∙ lookup_has a es ea q v (back v (has_lookup fs q v g)) in absurd (cc)

apart_of : (s q : State) → state_eq s q ≡ false → s ≡ q → ⊥
apart_of s q e f = let h : state_eq s q ≡ true = ap (state_eq s) (sym f) ∙ state_self s in absurd (cc)

-- another count at a state's place
module _ (places : List ℕ) (es : List (State × ℕ)) (are : ArePlaces places es) (s : State) (k i : ℕ) (h : i < length es) (e : (d : State × ℕ) → (get_or es i d).0 ≡ s) where
  size : length (set es i (s, k)) ≡ length es
  size = length-set es i (s, k)

  pub placed_set : ArePlaces places (set es i (s, k))
  placed_set j less d = by (cases_eq j i)
    where
      by : (j ≡ i) ⊎ (j ≡ i → ⊥) → get_or places (key_of (get_or (set es i (s, k)) j d).0) 0 ≡ j
      by (inl f) = ap (λ n. get_or places (key_of (get_or (set es i (s, k)) n d).0) 0) f ∙ ap (λ (x : State × ℕ). get_or places (key_of x.0) 0) (get_or-set_same es i (s, k) d h) ∙ has_place places es are s i h (e no_entry) ∙ sym f
      by (inr n) = ap (λ (x : State × ℕ). get_or places (key_of x.0) 0) (get_or-set_other es i j (s, k) d n) ∙ are j (omega (arith, less, size)) d

  pub updates_set : (q : State) → lookup (state_eq q) (set es i (s, k)) ≡ cond (state_eq s q) (Some k) (lookup (state_eq q) es)
  updates_set q = by (state_eq s q) refl
    where
      by : (b : Bool) → state_eq s q ≡ b → lookup (state_eq q) (set es i (s, k)) ≡ cond (state_eq s q) (Some k) (lookup (state_eq q) es)
      by true f =
          let g : s ≡ q = state_equal s q f in
          lookup_has places (set es i (s, k)) placed_set q k (i, omega (arith, h, size), get_or-set_same es i (s, k) no_entry h ∙ ap (λ (t : State). (t, k)) g) ∙ ap (λ b. cond b (Some k) (lookup (state_eq q) es)) (sym f)
      by false f =
          lookup_same places places es (set es i (s, k)) are placed_set q
          (λ v p. (p.0, (let less = p.1 in omega (arith, less, size)), get_or-set_other es i p.0 (s, k) no_entry (λ g. apart_of s q f (sym (e no_entry) ∙ ap (λ n. (get_or es n no_entry).0) (sym g) ∙ ap (λ (x : State × ℕ). x.0) p.2)) ∙ p.2))
          (λ v p. back v p (cases_eq p.0 i))
          ∙ ap (λ b. cond b (Some k) (lookup (state_eq q) es)) (sym f)
        where
          back : (v : ℕ) (p : Has (set es i (s, k)) q v) → (p.0 ≡ i) ⊎ (p.0 ≡ i → ⊥) → Has es q v
          back v p (inl g) = absurd (apart_of s q f (ap (λ (x : State × ℕ). x.0) (sym (get_or-set_same es i (s, k) no_entry h) ∙ ap (λ n. get_or (set es i (s, k)) n no_entry) (sym g) ∙ p.2)))
          back v p (inr n) = (p.0, (let less = p.1 in omega (arith, less, size)), sym (get_or-set_other es i p.0 (s, k) no_entry n) ∙ p.2)

-- a state more, with its place
module _ (places wide : List ℕ) (es : List (State × ℕ)) (are : ArePlaces places es) (same : (n : ℕ) → get_or wide n 0 ≡ get_or places n 0) (s : State) (room : key_of s < length wide) (none : lookup (state_eq s) es ≡ None) where
  others : (j : ℕ) → j < length es → (d : State × ℕ) → get_or (set wide (key_of s) (length es)) (key_of (get_or es j d).0) 0 ≡ j
  others j less d =
      get_or-set_other wide (key_of s) (key_of (get_or es j d).0) (length es) 0 (λ g. apart (key_one (get_or es j d).0 s g)) ∙ same (key_of (get_or es j d).0) ∙ are j less d
    where
      apart : (get_or es j d).0 ≡ s → ⊥
      apart g = lookup_there es j s less (ap (λ (x : State × ℕ). x.0) (get_or_any es j less d) ∙ g) none

  pub placed_wide : ArePlaces (set wide (key_of s) (length es)) es
  placed_wide j less d = others j less d

  module _ (k : ℕ) where
    more : length (es ++ (s, k) ∷ []) ≡ length es + 1
    more = length-append es ((s, k) ∷ [])

    pub placed_push : ArePlaces (set wide (key_of s) (length es)) (es ++ (s, k) ∷ [])
    placed_push j less d = by (cases_eq j (length es))
      where
        by : (j ≡ length es) ⊎ (j ≡ length es → ⊥) → get_or (set wide (key_of s) (length es)) (key_of (get_or (es ++ (s, k) ∷ []) j d).0) 0 ≡ j
        by (inl f) = ap (λ (x : State × ℕ). get_or (set wide (key_of s) (length es)) (key_of x.0) 0) (get_or_push es (s, k) d j (sym f)) ∙ get_or-set_same wide (key_of s) (length es) 0 room ∙ sym f
        by (inr n) =
            let h : j < length es = omega (arith, less, more, n) in
            ap (λ (x : State × ℕ). get_or (set wide (key_of s) (length es)) (key_of x.0) 0) (get_or-append es ((s, k) ∷ []) d j h) ∙ others j h d

    pub updates_push : (q : State) → lookup (state_eq q) (es ++ (s, k) ∷ []) ≡ cond (state_eq s q) (Some k) (lookup (state_eq q) es)
    updates_push q = by (state_eq s q) refl
      where
        by : (b : Bool) → state_eq s q ≡ b → lookup (state_eq q) (es ++ (s, k) ∷ []) ≡ cond (state_eq s q) (Some k) (lookup (state_eq q) es)
        by true f =
            lookup_has (set wide (key_of s) (length es)) (es ++ (s, k) ∷ []) placed_push q k (length es, omega (arith, more), get_or_push es (s, k) no_entry (length es) refl ∙ ap (λ (t : State). (t, k)) (state_equal s q f)) ∙ ap (λ b. cond b (Some k) (lookup (state_eq q) es)) (sym f)
        by false f =
            lookup_same places (set wide (key_of s) (length es)) es (es ++ (s, k) ∷ []) are placed_push q
            (λ v p. (p.0, (let less = p.1 in omega (arith, less, more)), get_or-append es ((s, k) ∷ []) no_entry p.0 p.1 ∙ p.2))
            (λ v p. back v p (cases_eq p.0 (length es)))
            ∙ ap (λ b. cond b (Some k) (lookup (state_eq q) es)) (sym f)
          where
            back : (v : ℕ) (p : Has (es ++ (s, k) ∷ []) q v) → (p.0 ≡ length es) ⊎ (p.0 ≡ length es → ⊥) → Has es q v
            back v p (inl g) = absurd (apart_of s q f (ap (λ (x : State × ℕ). x.0) (sym (get_or_push es (s, k) no_entry p.0 (sym g)) ∙ p.2)))
            back v p (inr n) =
                let h : p.0 < length es = (let less = p.1 in omega (arith, less, more, n)) in
                (p.0, h, sym (get_or-append es ((s, k) ∷ []) no_entry p.0 h) ∙ p.2)
