-- Queues of variables by their keys.
use Rattle.std.proofs.Common.{◌≡◌, ◌↔◌, ℕ, ◌⊎◌, inl, inr, List, [], ◌∷◌, map, Contains, true, false, Bool, refl, sym, ap, subst, ◌∙◌}
use Rattle.std.specs.declared.cmp.Ordering.{Ordering}
use Rattle.std.specs.declared.cmp.Ordering.TheVariants.{Less, Equal, Greater}
use Rattle.std.specs.Ordering.{ordering_then, match_ordering, nat_cmp, is_lt}
use Rattle.std.specs.Cmp.Lexicographic.{slice_cmp}
use Rattle.std.specs.BTreeMap.{insert_entry}
use Rattle.std.specs.Map.{keys_of, values_of}
use Rattle.std.specs.Global.{Vec}
use Rattle.std.proofs.lemmas.Map.Lookups.{exact_bytes}
use Rattle.rt_base.proofs.Lists.{Contains-none, Contains-here, Contains-there, Contains-cons_cases, Contains-map, Contains-map_source}
use Rattle.rt_lines.specs.declared.variable.Dtv.{Dtv}
use Rattle.rt_reduction.specs.Before.{variable_key, comes_before}
use Rattle.rt_reduction.proofs.Before.{one_first, not_before_self, one_variable_key}
use Rattle.rt_emit.specs.Keys.{numbers}
use Rattle.rt_emit.specs.Inside.Queues.{AreKeyed, IsPopped}

abbrev Key : Type 0
Key = Vec (Vec ℕ)

abbrev cmp : List (List ℕ) → List (List ℕ) → Ordering
cmp = slice_cmp (slice_cmp nat_cmp)

-- how two keys compare
abbrev pub key_cmp : Key → Key → Ordering
key_cmp a b = slice_cmp (λ u v. slice_cmp nat_cmp u.items v.items) a.items b.items

agrees : (us vs : List (Vec ℕ)) → slice_cmp (λ u v. slice_cmp nat_cmp u.items v.items) us vs ≡ cmp (map (λ u. u.items) us) (map (λ v.
    v.items) vs)
agrees [] [] = refl
agrees [] (v ∷ vs) = refl
agrees (u ∷ us) [] = refl
agrees (u ∷ us) (v ∷ vs) = ap (ordering_then (slice_cmp nat_cmp u.items v.items)) (agrees us vs)

exact_list : (xs ys : List (List ℕ)) → cmp xs ys ≡ Equal → xs ≡ ys
exact_list [] [] e = refl
exact_list [] (y ∷ ys) e = absurd (cc)
exact_list (x ∷ xs) [] e = absurd (cc)
exact_list (x ∷ xs) (y ∷ ys) e = by (slice_cmp nat_cmp x y) refl e (exact_list xs ys)
  where
    by : (o : Ordering) → slice_cmp nat_cmp x y ≡ o → ordering_then o (cmp xs ys) ≡ Equal → (cmp xs ys ≡ Equal → xs ≡ ys) → x ∷ xs ≡ y ∷ ys
    by Less f g rest = absurd (cc)
    by Greater f g rest = absurd (cc)
    by Equal f g rest = λ i. exact_bytes x y f i ∷ rest g i

one_number : (a b : Key) → key_cmp a b ≡ Equal → numbers a ≡ numbers b
one_number a b e = exact_list (numbers a) (numbers b) (sym (agrees a.items b.items) ∙ e)

abbrev Entries : Type 0
Entries = List (Key × Dtv)

pub tail_keyed : (e : Key × Dtv) (es : Entries) → AreKeyed (e ∷ es) → AreKeyed es
tail_keyed e es h d c = h d (Contains-there e es d c)

cons_keyed : (e : Key × Dtv) (es : Entries) → numbers e.0 ≡ variable_key e.1 → AreKeyed es → AreKeyed (e ∷ es)
cons_keyed e es h k d c = by (Contains-cons_cases e es d c)
  where
    by : (e ≡ d) ⊎ Contains es d → numbers d.0 ≡ variable_key d.1
    by (inl f) = subst (λ p. numbers p.0 ≡ variable_key p.1) f h
    by (inr g) = k d g

module _ (k : Key) (x : Dtv) (is_key : numbers k ≡ variable_key x) where
  pub insert_keyed : (es : Entries) → AreKeyed es → AreKeyed (insert_entry key_cmp es k x)
  insert_keyed [] h = cons_keyed (k, x) [] is_key h
  insert_keyed (e ∷ es) h = by (key_cmp k e.0) refl (insert_keyed es (tail_keyed e es h))
    where
      by : (o : Ordering) → key_cmp k e.0 ≡ o → AreKeyed (insert_entry key_cmp es k x) →
          AreKeyed (match_ordering o ((k, x) ∷ e ∷ es) ((e.0, x) ∷ es) (e ∷ insert_entry key_cmp es k x))
      by Less f r = cons_keyed (k, x) (e ∷ es) is_key h
      by Equal f r = cons_keyed (e.0, x) es (sym (one_number k e.0 f) ∙ is_key) (tail_keyed e es h)
      by Greater f r = cons_keyed e (insert_entry key_cmp es k x) (h e (Contains-here e es)) r

  abbrev Has : Entries → Dtv → Type 0
  Has es y = Contains (values_of es) y

  pub insert_source : (es : Entries) (y : Dtv) → Has (insert_entry key_cmp es k x) y → Has es y ⊎ (y ≡ x)
  insert_source [] y c = by (Contains-cons_cases x [] y c)
    where
      by : (x ≡ y) ⊎ Contains [] y → Contains [] y ⊎ (y ≡ x)
      by (inl e) = inr (sym e)
      by (inr d) = inl d
  insert_source (e ∷ es) y c = by (key_cmp k e.0) (insert_source es y) c
    where
      first : (x ≡ y) ⊎ Has (e ∷ es) y → Has (e ∷ es) y ⊎ (y ≡ x)
      first (inl f) = inr (sym f)
      first (inr d) = inl d

      instead : (x ≡ y) ⊎ Has es y → Has (e ∷ es) y ⊎ (y ≡ x)
      instead (inl f) = inr (sym f)
      instead (inr d) = inl (Contains-there e.1 (values_of es) y d)

      deeper : (e.1 ≡ y) ⊎ Has (insert_entry key_cmp es k x) y → (Has (insert_entry key_cmp es k x) y → Has es y ⊎ (y ≡ x)) →
          Has (e ∷ es) y ⊎ (y ≡ x)
      deeper (inl f) rest = inl (subst (Contains (e.1 ∷ values_of es)) f (Contains-here e.1 (values_of es)))
      deeper (inr d) rest = up (rest d)
        where
          up : Has es y ⊎ (y ≡ x) → Has (e ∷ es) y ⊎ (y ≡ x)
          up (inl g) = inl (Contains-there e.1 (values_of es) y g)
          up (inr g) = inr g

      by : (o : Ordering) → (Has (insert_entry key_cmp es k x) y → Has es y ⊎ (y ≡ x)) →
          Has (match_ordering o ((k, x) ∷ e ∷ es) ((e.0, x) ∷ es) (e ∷ insert_entry key_cmp es k x)) y → Has (e ∷ es) y ⊎ (y ≡ x)
      by Less rest d = first (Contains-cons_cases x (values_of (e ∷ es)) y d)
      by Equal rest d = instead (Contains-cons_cases x (values_of es) y d)
      by Greater rest d = deeper (Contains-cons_cases e.1 (values_of (insert_entry key_cmp es k x)) y d) rest

  pub insert_has : (es : Entries) → Has (insert_entry key_cmp es k x) x
  insert_has [] = Contains-here x []
  insert_has (e ∷ es) = by (key_cmp k e.0) (insert_has es)
    where
      by : (o : Ordering) → Has (insert_entry key_cmp es k x) x →
          Has (match_ordering o ((k, x) ∷ e ∷ es) ((e.0, x) ∷ es) (e ∷ insert_entry key_cmp es k x)) x
      by Less rest = Contains-here x (values_of (e ∷ es))
      by Equal rest = Contains-here x (values_of es)
      by Greater rest = Contains-there e.1 (values_of (insert_entry key_cmp es k x)) x rest

  pub insert_stays : (es : Entries) (y : Dtv) → AreKeyed es → Has es y → Has (insert_entry key_cmp es k x) y
  insert_stays [] y h c = absurd (Contains-none y c)
  insert_stays (e ∷ es) y h c = by (key_cmp k e.0) refl (λ d. insert_stays es y (tail_keyed e es h) d)
    where
      instead : key_cmp k e.0 ≡ Equal → (e.1 ≡ y) ⊎ Has es y → Has ((e.0, x) ∷ es) y
      instead f (inl g) =
          let same : x ≡ e.1 = one_variable_key x e.1 (sym is_key ∙ one_number k e.0 f ∙ h e (Contains-here e es)) in
          subst (Contains (x ∷ values_of es)) (same ∙ g) (Contains-here x (values_of es))
      instead f (inr d) = Contains-there x (values_of es) y d

      deeper : (e.1 ≡ y) ⊎ Has es y → (Has es y → Has (insert_entry key_cmp es k x) y) → Has (e ∷ insert_entry key_cmp es k x) y
      deeper (inl g) rest = subst (Contains (e.1 ∷ values_of (insert_entry key_cmp es k x))) g (Contains-here e.1 (values_of
          (insert_entry key_cmp es k x)))
      deeper (inr d) rest = Contains-there e.1 (values_of (insert_entry key_cmp es k x)) y (rest d)

      by : (o : Ordering) → key_cmp k e.0 ≡ o → (Has es y → Has (insert_entry key_cmp es k x) y) →
          Has (match_ordering o ((k, x) ∷ e ∷ es) ((e.0, x) ∷ es) (e ∷ insert_entry key_cmp es k x)) y
      by Less f rest = Contains-there x (values_of (e ∷ es)) y c
      by Equal f rest = instead f (Contains-cons_cases e.1 (values_of es) y c)
      by Greater f rest = deeper (Contains-cons_cases e.1 (values_of es) y c) rest

  pub holds_after : (es : Entries) → AreKeyed es → (y : Dtv) → Has (insert_entry key_cmp es k x) y ↔ (Has es y ⊎ (y ≡ x))
  holds_after es h y = (insert_source es y, by)
    where
      by : Has es y ⊎ (y ≡ x) → Has (insert_entry key_cmp es k x) y
      by (inl c) = insert_stays es y h c
      by (inr e) = subst (Has (insert_entry key_cmp es k x)) (sym e) (insert_has es)

-- the first entry is taken out
pub popped : (p : Key × Dtv) (old new : Entries) → old ≡ p ∷ new → AreKeyed old → ((q : Key) → Contains (keys_of new) q →
    key_cmp p.0 q ≡ Less) →
    IsPopped (values_of old) (values_of new) p.1
popped p old new e keyed above = record { taken = ap values_of e; first = first }
  where
    keyed' : AreKeyed (p ∷ new)
    keyed' = subst AreKeyed e keyed

    first : (y : Dtv) → Contains (values_of new) y → comes_before p.1 y ≡ true
    first y c =
        let s = Contains-map_source (λ (d : Key × Dtv). d.1) new y c in
        let less : key_cmp p.0 s.0.0 ≡ Less = above s.0.0 (Contains-map (λ (d : Key × Dtv). d.0) new s.0 s.1) in
        let at_numbers : cmp (numbers p.0) (numbers s.0.0) ≡ Less = sym (agrees p.0.items s.0.0.items) ∙ less in
        let at_keys : cmp (variable_key p.1) (variable_key s.0.1) ≡ Less =
        sym (λ i. cmp (keyed' p (Contains-here p new) i) (keyed' s.0 (Contains-there p new s.0 s.1) i)) ∙ at_numbers in
        subst (λ z. comes_before p.1 z ≡ true) s.2 (ap is_lt at_keys)
