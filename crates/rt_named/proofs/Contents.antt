-- What is named.
use Rattle.std.proofs.Common.{◌≡◌, ◌≢◌, ℕ, ◌<◌, ◌⊎◌, inl, inr, Bool, true, false, List, [], ◌∷◌, ◌++◌, map, length, get_or, AllPairs, Contains, refl, sym, ap, subst, ◌∙◌, arith, true≢false}
use Rattle.std.specs.List.{list_any, fold, flat_map}
use Rattle.std.proofs.lemmas.List.Elements.{Contains-append_left, Contains-append_right, Contains-append_cases}
use Rattle.std.proofs.lemmas.List.Folds.{list_any_at}
use Rattle.std.proofs.lemmas.List.Quantifiers.{all_pairs_push}
use Rattle.indexmap.specs.IndexSet.{insert_key}
use Rattle.indexmap.proofs.CallerLemmas.{Contains-insert_key}
use Rattle.rt_lines.specs.declared.label.Label.{Label}
use Rattle.rt_lines.specs.declared.variable.Dtv.{Dtv}
use Rattle.rt_lines.specs.declared.line.Line.{Line}
use Rattle.rt_lines.specs.declared.line.Line.TheVariants.{Var, Same, Sub, Low, Up}
use Rattle.rt_lines.specs.Equality.{variable_eq}
use Rattle.rt_lines.proofs.Equal.{variable_equal}
use Rattle.rt_rules.specs.Rules.{extended, HasSide}
use Rattle.rt_rules.proofs.Lists.{Contains-none, Contains-here, Contains-there, Contains-cons_cases, Contains-map, Contains-map_source}
use Rattle.rt_named.specs.Naming.{sides_of, word_prefixes, prefixes, named}
use Rattle.rt_named.specs.Laws.{IsPrefix, IsGiven, ContentsLaw, OnceLaw}
use Rattle.rt_lines.proofs.Same.{variable_self}

abbrev insert : List Dtv → Dtv → List Dtv
insert = insert_key variable_eq

-- what an insertion keeps
insert-keeps : (ks : List Dtv) (k x : Dtv) → Contains ks x → Contains (insert ks k) x
insert-keeps ks k x h = by (list_any (variable_eq k) ks) refl
  where
    by : (b : Bool) → list_any (variable_eq k) ks ≡ b → Contains (insert ks k) x
    by true e = rw e h
    by false e = rw e (Contains-append_left ks (k ∷ []) x h)

only_one : (k x : Dtv) → Contains (k ∷ []) x → k ≡ x
only_one k x c = elim (Contains-cons_cases k [] x c) [ inl e ↦ e | inr h ↦ absurd (Contains-none x h) ]

insert-source : (ks : List Dtv) (k x : Dtv) → Contains (insert ks k) x → Contains ks x ⊎ (k ≡ x)
insert-source ks k x h = by (list_any (variable_eq k) ks) refl
  where
    by : (b : Bool) → list_any (variable_eq k) ks ≡ b → Contains ks x ⊎ (k ≡ x)
    by true e = inl (rw e at h)
    by false e = elim (Contains-append_cases ks (k ∷ []) x (rw e at h)) [ inl c ↦ inl c | inr c ↦ inr (only_one k x c) ]

inserted-stays : (xs ks : List Dtv) (x : Dtv) → Contains ks x → Contains (fold insert ks xs) x
inserted-stays [] ks x h = h
inserted-stays (k ∷ xs) ks x h = inserted-stays xs (insert ks k) x (insert-keeps ks k x h)

source_more : (k : Dtv) (xs ks : List Dtv) (x : Dtv) → Contains ks x ⊎ (k ≡ x) → Contains ks x ⊎ Contains (k ∷ xs) x
source_more k xs ks x (inl c) = inl c
source_more k xs ks x (inr e) = inr (subst (Contains (k ∷ xs)) e (Contains-here k xs))

inserted-source : (xs ks : List Dtv) (x : Dtv) → Contains (fold insert ks xs) x → Contains ks x ⊎ Contains xs x
inserted-source [] ks x h = inl h
inserted-source (k ∷ xs) ks x h = elim (inserted-source xs (insert ks k) x h) [
  | inl c ↦ source_more k xs ks x (insert-source ks k x c)
  | inr c ↦ inr (Contains-there k xs x c)
]

inserted-has : (xs ks : List Dtv) (x : Dtv) → Contains xs x → Contains (fold insert ks xs) x
inserted-has [] ks x h = absurd (Contains-none x h)
inserted-has (k ∷ xs) ks x h = elim (Contains-cons_cases k xs x h) [
  | inl e ↦ inserted-stays xs (insert ks k) x (subst (Contains (insert ks k)) e (Contains-insert_key variable_eq variable_equal ks k))
  | inr c ↦ inserted-has xs (insert ks k) x c
]

-- once
insert-distinct : (ks : List Dtv) (k : Dtv) → AllPairs (λ x y. x ≢ y) ks → AllPairs (λ x y. x ≢ y) (insert ks k)
insert-distinct ks k h = by (list_any (variable_eq k) ks) refl
  where
    apart : list_any (variable_eq k) ks ≡ false → (i : ℕ) (d : Dtv) → i < length ks → get_or ks i d ≢ k
    apart e i d less f = true≢false (sym (list_any_at (variable_eq k) ks i d less (ap (variable_eq k) f ∙ variable_self k)) ∙ e)

    by : (b : Bool) → list_any (variable_eq k) ks ≡ b → AllPairs (λ x y. x ≢ y) (insert ks k)
    by true e = rw e h
    by false e = rw e (all_pairs_push (λ (x y : Dtv). x ≢ y) ks k h (apart e))

inserted-distinct : (xs ks : List Dtv) → AllPairs (λ x y. x ≢ y) ks → AllPairs (λ x y. x ≢ y) (fold insert ks xs)
inserted-distinct [] ks h = h
inserted-distinct (k ∷ xs) ks h = inserted-distinct xs (insert ks k) (insert-distinct ks k h)

-- elements of joined lists
joined-has : {X : Type 0} (f : X → List Dtv) (xs : List X) (x : X) (z : Dtv) → Contains xs x → Contains (f x) z → Contains (flat_map f xs) z
joined-has f [] x z c d = absurd (Contains-none x c)
joined-has f (y ∷ xs) x z c d = elim (Contains-cons_cases y xs x c) [
  | inl e ↦ Contains-append_left (f y) (flat_map f xs) z (subst (λ v. Contains (f v) z) (sym e) d)
  | inr h ↦ Contains-append_right (f y) (flat_map f xs) z (joined-has f xs x z h d)
]

joined-source : {X : Type 0} (f : X → List Dtv) (xs : List X) (z : Dtv) → Contains (flat_map f xs) z → (x : X) × Contains xs x × Contains (f x) z
joined-source f [] z c = absurd (Contains-none z c)
joined-source {X} f (y ∷ xs) z c = elim (Contains-append_cases (f y) (flat_map f xs) z c) [
  | inl d ↦ (y, Contains-here y xs, d)
  | inr d ↦ let r : (x : X) × Contains xs x × Contains (f x) z = joined-source f xs z d in (r.0, Contains-there y xs r.0 r.1, r.2)
]

-- the sides of a line
pub side-has : (l : Line) (z : Dtv) → HasSide l z → Contains (sides_of l) z
side-has (Var x) z e = subst (Contains (x ∷ [])) e (Contains-here x [])
side-has (Low k x) z e = subst (Contains (x ∷ [])) e (Contains-here x [])
side-has (Up x k) z e = subst (Contains (x ∷ [])) e (Contains-here x [])
side-has (Same x y) z (inl e) = subst (Contains (x ∷ y ∷ [])) e (Contains-here x (y ∷ []))
side-has (Same x y) z (inr e) = subst (Contains (x ∷ y ∷ [])) e (Contains-there x (y ∷ []) y (Contains-here y []))
side-has (Sub x y) z (inl e) = subst (Contains (x ∷ y ∷ [])) e (Contains-here x (y ∷ []))
side-has (Sub x y) z (inr e) = subst (Contains (x ∷ y ∷ [])) e (Contains-there x (y ∷ []) y (Contains-here y []))

one_of_two : (x y z : Dtv) → Contains (x ∷ y ∷ []) z → (x ≡ z) ⊎ (y ≡ z)
one_of_two x y z c = elim (Contains-cons_cases x (y ∷ []) z c) [ inl e ↦ inl e | inr d ↦ inr (only_one y z d) ]

side-source : (l : Line) (z : Dtv) → Contains (sides_of l) z → HasSide l z
side-source (Var x) z c = only_one x z c
side-source (Low k x) z c = only_one x z c
side-source (Up x k) z c = only_one x z c
side-source (Same x y) z c = one_of_two x y z c
side-source (Sub x y) z c = one_of_two x y z c

-- the prefixes of a word
word_prefix-has : (u w : List Label) → Contains (word_prefixes (u ++ w)) u
word_prefix-has [] [] = Contains-here [] []
word_prefix-has [] (l ∷ w) = Contains-here [] (map (λ (v : List Label). l ∷ v) (word_prefixes w))
word_prefix-has (l ∷ u) w = Contains-there [] (map (λ (v : List Label). l ∷ v) (word_prefixes (u ++ w))) (l ∷ u) (Contains-map (λ (v : List Label). l ∷ v) (word_prefixes (u ++ w)) u (word_prefix-has u w))

word_prefix-source : (u v : List Label) → Contains (word_prefixes v) u → (w : List Label) × (u ++ w ≡ v)
word_prefix-source u [] c = elim (Contains-cons_cases [] [] u c) [ inl e ↦ ([], subst (λ t. t ++ [] ≡ []) e refl) | inr h ↦ absurd (Contains-none u h) ]
word_prefix-source u (l ∷ v) c = elim (Contains-cons_cases [] (map (λ (t : List Label). l ∷ t) (word_prefixes v)) u c) [
  | inl e ↦ (l ∷ v, subst (λ t. t ++ l ∷ v ≡ l ∷ v) e refl)
  | inr h ↦
      let s : (t : List Label) × Contains (word_prefixes v) t × (l ∷ t ≡ u) = Contains-map_source (λ (t : List Label). l ∷ t) (word_prefixes v) u h in
      let r : (w : List Label) × (s.0 ++ w ≡ v) = word_prefix-source s.0 v s.1 in
      (r.0, subst (λ t. t ++ r.0 ≡ l ∷ v) s.2 (ap (λ t. l ∷ t) r.1))
]

prefix-has : (x y : Dtv) → IsPrefix x y → Contains (prefixes y) x
prefix-has x y p =
    subst (λ (z : Dtv). Contains (prefixes z) x) p.1 (Contains-map (λ (w : List Label). record { base = x.base; word = w }) (word_prefixes (x.word ++ p.0)) x.word (word_prefix-has x.word p.0))

prefix-source : (x y : Dtv) → Contains (prefixes y) x → IsPrefix x y
prefix-source x y c =
    let s : (u : List Label) × Contains (word_prefixes y.word) u × (◌≡◌ {A = Dtv} (record { base = y.base; word = u }) x) = Contains-map_source (λ (w : List Label). record { base = y.base; word = w }) (word_prefixes y.word) x c in
    let r : (w : List Label) × (s.0 ++ w ≡ y.word) = word_prefix-source s.0 y.word s.1 in
    (r.0, subst (λ (z : Dtv). extended z r.0 ≡ y) s.2 (ap (λ (w : List Label). record { base = y.base; word = w }) r.1))

pub contents_law : ContentsLaw
contents_law lines extra x = (forth, back)
  where
    given-source : (y : Dtv) → Contains (flat_map sides_of lines ++ extra) y → IsGiven lines extra y
    given-source y c = elim (Contains-append_cases (flat_map sides_of lines) extra y c) [
      | inl d ↦ let s : (l : Line) × Contains lines l × Contains (sides_of l) y = joined-source sides_of lines y d in inl (s.0, s.1, side-source s.0 y s.2)
      | inr d ↦ inr d
    ]

    given-has : (y : Dtv) → IsGiven lines extra y → Contains (flat_map sides_of lines ++ extra) y
    given-has y (inl s) = Contains-append_left (flat_map sides_of lines) extra y (joined-has sides_of lines s.0 y s.1 (side-has s.0 y s.2))
    given-has y (inr d) = Contains-append_right (flat_map sides_of lines) extra y d

    forth : Contains (named lines extra) x → (y : Dtv) × IsGiven lines extra y × IsPrefix x y
    forth c = elim (inserted-source (flat_map prefixes (flat_map sides_of lines ++ extra)) [] x c) [
      | inl d ↦ absurd (Contains-none x d)
      | inr d ↦
          let s : (y : Dtv) × Contains (flat_map sides_of lines ++ extra) y × Contains (prefixes y) x = joined-source prefixes (flat_map sides_of lines ++ extra) x d in
          (s.0, given-source s.0 s.1, prefix-source x s.0 s.2)
    ]

    back : ((y : Dtv) × IsGiven lines extra y × IsPrefix x y) → Contains (named lines extra) x
    back s = inserted-has (flat_map prefixes (flat_map sides_of lines ++ extra)) [] x (joined-has prefixes (flat_map sides_of lines ++ extra) s.0 x (given-has s.0 s.1) (prefix-has x s.0 s.2))

pub once_law : OnceLaw
once_law lines extra = inserted-distinct (flat_map prefixes (flat_map sides_of lines ++ extra)) [] (λ i j d less within. absurd (omega arith))
