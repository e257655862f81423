-- Sets of names, and of types.
use Rattle.std.proofs.Common.{◌≡◌, ℕ, zero, suc, ◌+◌, ◌<◌, ◌≤◌, Bool, true, false, ◌↔◌, ◌⊎◌, inl, inr, IsTrue, List, [], ◌∷◌, ◌++◌, All, Contains, map, length, get_or, take, take_all, if◌then◌else◌, refl, ap, sym, subst, ◌∙◌, append-nil, arith}
use Rattle.std.specs.List.{flat_map, list_any}
use Rattle.std.specs.Ordering.{is_lt, is_eq, nat_cmp, match_ordering}
use Rattle.std.specs.Cmp.Lexicographic.{slice_cmp, texts_ties}
use Rattle.std.specs.declared.cmp.Ordering.{Ordering}
use Rattle.std.specs.declared.cmp.Ordering.TheVariants.{Less, Equal, Greater}
use Rattle.std.proofs.lemmas.Bool.{false≢true}
use Rattle.std.proofs.lemmas.Grind.{flat_map-append}
use Rattle.std.proofs.lemmas.List.{map-append}
use Rattle.std.proofs.lemmas.List.Elements.{All-contains, All-more, All-nil, All-cons, All-head, All-tail, Contains-append_cases, Contains-append_left, Contains-append_right}
use Rattle.std.proofs.lemmas.Slice.Eq.{bytes_eq-Decides}
use Rattle.std.specs.BTreeSet.{insert_key}
use Rattle.std.proofs.lemmas.Map.Lookups.{exact_bytes}
use Rattle.rt_base.proofs.Numbers.{less_lt}
use Rattle.rt_base.proofs.Lists.{Contains-none, Contains-here, Contains-there, Contains-cons_cases, Contains-map, Contains-map_source, list_any-at, list_any-from, take-next}
use Rattle.rt_lines.specs.declared.label.Loc.{Loc}
use Rattle.rt_cdecl.specs.declared.declarations.CType.{CType}
use Rattle.rt_cdecl.specs.declared.declarations.CType.TheVariants.{Unused, Scalar, Pointer}
use Rattle.rt_cdecl.specs.Types.{IsTypedef, IsWidth}
use Rattle.rt_cdecl.specs.GoodDecls.{named_types, arg_types}
use Rattle.rt_cdecl.specs.Rows.{Returns, Nothing, Value, Both, typedef_text}
use Rattle.rt_cdecl.specs.Inside.Drafts.{LastBefore, IsAdded, Adds, kinds_of, line_types}

-- a name is looked up
pub names_has : {K : Type 0} (bytes : K → List ℕ) (keys : List K) (name : List ℕ) (names : List (List ℕ)) (r : Bool) → map bytes keys ≡ names → r ≡ list_any (λ k. is_eq (slice_cmp nat_cmp name (bytes k))) keys → IsTrue r ↔ Contains names name
names_has {K} bytes keys name names r view is = subst (λ ns. IsTrue r ↔ Contains ns name) view (to, back)
  where
    to : IsTrue r → Contains (map bytes keys) name
    to t =
        let at = list_any-at (λ k. is_eq (slice_cmp nat_cmp name (bytes k))) keys (sym is ∙ t) in
        subst (Contains (map bytes keys)) (sym ((bytes_eq-Decides name (bytes at.0)).0 (texts_ties name (bytes at.0) ∙ at.2))) (Contains-map bytes keys at.0 at.1)

    back : Contains (map bytes keys) name → IsTrue r
    back h =
        let at = Contains-map_source bytes keys name h in
        is ∙ list_any-from (λ k. is_eq (slice_cmp nat_cmp name (bytes k))) keys at.0 at.1 (sym (texts_ties name (bytes at.0)) ∙ (bytes_eq-Decides name (bytes at.0)).1 (sym at.2))

-- a name that is there is not added
pub names_kept : (names : List (List ℕ)) (name : List ℕ) → Contains names name → IsAdded names name names
names_kept names name there = λ n. (λ h. inl h, λ h. elim h [ inl a ↦ a | inr e ↦ subst (Contains names) (sym e) there ])

-- one more in front, and one more behind an item
added_front : (names : List (List ℕ)) (name : List ℕ) → IsAdded names name (name ∷ names)
added_front names name = λ n. (
  λ h. elim (Contains-cons_cases name names n h) [ inl e ↦ inr (sym e) | inr a ↦ inl a ],
  λ h. elim h [ inl a ↦ Contains-there name names n a | inr e ↦ subst (Contains (name ∷ names)) (sym e) (Contains-here name names) ],
)

added_behind : (x name : List ℕ) (names more : List (List ℕ)) → IsAdded names name more → IsAdded (x ∷ names) name (x ∷ more)
added_behind x name names more added = λ n. (
  λ h. elim (Contains-cons_cases x more n h) [
    | inl e ↦ inl (subst (Contains (x ∷ names)) e (Contains-here x names))
    | inr a ↦ elim ((added n).0 a) [ inl b ↦ inl (Contains-there x names n b) | inr f ↦ inr f ]
  ],
  λ h. elim h [
    | inl a ↦ elim (Contains-cons_cases x names n a) [ inl e ↦ subst (Contains (x ∷ more)) e (Contains-here x more) | inr b ↦ Contains-there x more n ((added n).1 (inl b)) ]
    | inr f ↦ Contains-there x more n ((added n).1 (inr f))
  ],
)

-- one that is put at its place in the order is added
module _ {K : Type 0} (bytes : K → List ℕ) where
  abbrev name_cmp : K → K → Ordering
  name_cmp a b = slice_cmp nat_cmp (bytes a) (bytes b)

  inserted_at : (x : K) (keys : List K) (v : K) → IsAdded (map bytes keys) (bytes v) (map bytes (insert_key name_cmp keys v)) → (o : Ordering) → name_cmp v x ≡ o →
      IsAdded (bytes x ∷ map bytes keys) (bytes v) (map bytes (match_ordering o (v ∷ x ∷ keys) (x ∷ keys) (x ∷ insert_key name_cmp keys v)))
  inserted_at x keys v more Less order = added_front (bytes x ∷ map bytes keys) (bytes v)
  inserted_at x keys v more Equal order =
      names_kept (bytes x ∷ map bytes keys) (bytes v) (subst (Contains (bytes x ∷ map bytes keys)) (sym (exact_bytes (bytes v) (bytes x) order)) (Contains-here (bytes x) (map bytes keys)))
  inserted_at x keys v more Greater order = added_behind (bytes x) (bytes v) (map bytes keys) (map bytes (insert_key name_cmp keys v)) more

  inserted : (keys : List K) (v : K) → IsAdded (map bytes keys) (bytes v) (map bytes (insert_key name_cmp keys v))
  inserted [] v = added_front [] (bytes v)
  inserted (x ∷ keys) v = inserted_at x keys v (inserted keys v) (name_cmp v x) refl

  pub names_added : (keys more : List K) (v : K) (name : List ℕ) (names : List (List ℕ)) → map bytes keys ≡ names → bytes v ≡ name → more ≡ insert_key name_cmp keys v → IsAdded names name (map bytes more)
  names_added keys more v name names view is grown =
      let here : IsAdded (map bytes keys) (bytes v) (map bytes more) = subst (λ (ks : List K). IsAdded (map bytes keys) (bytes v) (map bytes ks)) (sym grown) (inserted keys v) in
      subst (λ n. IsAdded names n (map bytes more)) is (subst (λ ns. IsAdded ns (bytes v) (map bytes more)) view here)

-- a set of types has a type where its part for the width has the name
abbrev pub PartOf : Bool → List (List ℕ) → List (List ℕ) → List (List ℕ) → CType → Type 0
PartOf unused chars shorts ints Unused = IsTrue unused
PartOf unused chars shorts ints (Scalar name bits) = (Contains chars name × (bits ≡ 8)) ⊎ ((Contains shorts name × (bits ≡ 16)) ⊎ (Contains ints name × (bits ≡ 32)))
PartOf unused chars shorts ints (Pointer n) = ⊥

unused_in : (unused : Bool) (t : CType) → Contains (if unused then Unused ∷ [] else []) t → IsTrue unused × (Unused ≡ t)
unused_in true t h = elim (Contains-cons_cases Unused [] t h) [ inl e ↦ (refl, e) | inr none ↦ absurd (Contains-none t none) ]
unused_in false t h = absurd (Contains-none t h)

scalar_in : (bits : ℕ) (names : List (List ℕ)) (t : CType) → Contains (map (λ (n : List ℕ). Scalar n bits) names) t → (n : List ℕ) × Contains names n × (Scalar n bits ≡ t)
scalar_in bits names t h = Contains-map_source (λ (n : List ℕ). Scalar n bits) names t h

to_part : (unused : Bool) (chars shorts ints : List (List ℕ)) (t : CType) → Contains (kinds_of unused chars shorts ints) t → PartOf unused chars shorts ints t
to_part unused chars shorts ints t h =
    elim (Contains-append_cases (if unused then Unused ∷ [] else []) _ t h) [
      | inl a ↦ let u = unused_in unused t a in subst (PartOf unused chars shorts ints) u.1 u.0
      | inr b ↦ elim (Contains-append_cases (map (λ (n : List ℕ). Scalar n 8) chars) _ t b) [
        | inl c ↦ let s = scalar_in 8 chars t c in subst (PartOf unused chars shorts ints) s.2 (inl (s.1, refl))
        | inr d ↦ elim (Contains-append_cases (map (λ (n : List ℕ). Scalar n 16) shorts) (map (λ (n : List ℕ). Scalar n 32) ints) t d) [
          | inl e ↦ let s = scalar_in 16 shorts t e in subst (PartOf unused chars shorts ints) s.2 (inr (inl (s.1, refl)))
          | inr f ↦ let s = scalar_in 32 ints t f in subst (PartOf unused chars shorts ints) s.2 (inr (inr (s.1, refl)))
        ]
      ]
    ]

from_part : (unused : Bool) (chars shorts ints : List (List ℕ)) (t : CType) → PartOf unused chars shorts ints t → Contains (kinds_of unused chars shorts ints) t
from_part true chars shorts ints Unused h = Contains-here Unused _
from_part false chars shorts ints Unused h = absurd (false≢true h)
from_part unused chars shorts ints (Scalar name bits) (inl (there, is)) =
    Contains-append_right (if unused then Unused ∷ [] else []) _ (Scalar name bits)
    (Contains-append_left (map (λ (n : List ℕ). Scalar n 8) chars) _ (Scalar name bits) (subst (λ b. Contains (map (λ (n : List ℕ). Scalar n 8) chars) (Scalar name b)) (sym is) (Contains-map (λ (n : List ℕ). Scalar n 8) chars name there)))
from_part unused chars shorts ints (Scalar name bits) (inr (inl (there, is))) =
    Contains-append_right (if unused then Unused ∷ [] else []) _ (Scalar name bits)
    (Contains-append_right (map (λ (n : List ℕ). Scalar n 8) chars) _ (Scalar name bits)
    (Contains-append_left (map (λ (n : List ℕ). Scalar n 16) shorts) _ (Scalar name bits) (subst (λ b. Contains (map (λ (n : List ℕ). Scalar n 16) shorts) (Scalar name b)) (sym is) (Contains-map (λ (n : List ℕ). Scalar n 16) shorts name there))))
from_part unused chars shorts ints (Scalar name bits) (inr (inr (there, is))) =
    Contains-append_right (if unused then Unused ∷ [] else []) _ (Scalar name bits)
    (Contains-append_right (map (λ (n : List ℕ). Scalar n 8) chars) _ (Scalar name bits)
    (Contains-append_right (map (λ (n : List ℕ). Scalar n 16) shorts) _ (Scalar name bits) (subst (λ b. Contains (map (λ (n : List ℕ). Scalar n 32) ints) (Scalar name b)) (sym is) (Contains-map (λ (n : List ℕ). Scalar n 32) ints name there))))
from_part unused chars shorts ints (Pointer n) h = absurd h

pub part_of : (unused : Bool) (chars shorts ints : List (List ℕ)) (t : CType) → Contains (kinds_of unused chars shorts ints) t ↔ PartOf unused chars shorts ints t
part_of unused chars shorts ints t = (to_part unused chars shorts ints t, from_part unused chars shorts ints t)

-- what a look-up tells
pub no_pointer : (unused : Bool) (chars shorts ints : List (List ℕ)) (n : ℕ) → IsTrue false ↔ Contains (kinds_of unused chars shorts ints) (Pointer n)
no_pointer unused chars shorts ints n = (λ t. absurd (false≢true t), λ h. absurd (to_part unused chars shorts ints (Pointer n) h))

pub unused_has : (unused : Bool) (chars shorts ints : List (List ℕ)) → IsTrue unused ↔ Contains (kinds_of unused chars shorts ints) Unused
unused_has unused chars shorts ints = (λ t. from_part unused chars shorts ints Unused t, λ h. to_part unused chars shorts ints Unused h)

pub char_has : (unused : Bool) (chars shorts ints : List (List ℕ)) (name : List ℕ) (r : Bool) → IsTrue r ↔ Contains chars name → IsTrue r ↔ Contains (kinds_of unused chars shorts ints) (Scalar name 8)
char_has unused chars shorts ints name r test = (λ t. from_part unused chars shorts ints (Scalar name 8) (inl (test.0 t, refl)), λ h. test.1 (by (to_part unused chars shorts ints (Scalar name 8) h)))
  where
    by : PartOf unused chars shorts ints (Scalar name 8) → Contains chars name
    by (inl (there, is)) = there
    by (inr (inl (there, is))) = absurd (omega arith)
    by (inr (inr (there, is))) = absurd (omega arith)

pub short_has : (unused : Bool) (chars shorts ints : List (List ℕ)) (name : List ℕ) (r : Bool) → IsTrue r ↔ Contains shorts name → IsTrue r ↔ Contains (kinds_of unused chars shorts ints) (Scalar name 16)
short_has unused chars shorts ints name r test = (λ t. from_part unused chars shorts ints (Scalar name 16) (inr (inl (test.0 t, refl))), λ h. test.1 (by (to_part unused chars shorts ints (Scalar name 16) h)))
  where
    by : PartOf unused chars shorts ints (Scalar name 16) → Contains shorts name
    by (inl (there, is)) = absurd (omega arith)
    by (inr (inl (there, is))) = there
    by (inr (inr (there, is))) = absurd (omega arith)

pub int_has : (unused : Bool) (chars shorts ints : List (List ℕ)) (name : List ℕ) (r : Bool) → IsTrue r ↔ Contains ints name → IsTrue r ↔ Contains (kinds_of unused chars shorts ints) (Scalar name 32)
int_has unused chars shorts ints name r test = (λ t. from_part unused chars shorts ints (Scalar name 32) (inr (inr (test.0 t, refl))), λ h. test.1 (by (to_part unused chars shorts ints (Scalar name 32) h)))
  where
    by : PartOf unused chars shorts ints (Scalar name 32) → Contains ints name
    by (inl (there, is)) = absurd (omega arith)
    by (inr (inl (there, is))) = absurd (omega arith)
    by (inr (inr (there, is))) = there

pub no_width : (unused : Bool) (chars shorts ints : List (List ℕ)) (name : List ℕ) (bits : ℕ) → (bits ≡ 8 → ⊥) → (bits ≡ 16 → ⊥) → (bits ≡ 32 → ⊥) → IsTrue false ↔ Contains (kinds_of unused chars shorts ints) (Scalar name bits)
no_width unused chars shorts ints name bits a b c = (λ t. absurd (false≢true t), λ h. by (to_part unused chars shorts ints (Scalar name bits) h))
  where
    by : PartOf unused chars shorts ints (Scalar name bits) → IsTrue false
    by (inl (there, is)) = absurd (a is)
    by (inr (inl (there, is))) = absurd (b is)
    by (inr (inr (there, is))) = absurd (c is)

-- one item more, as a list
pub one_adds : {X : Type 0} (old : List X) (x : X) (new : List X) → IsAdded old x new → Adds old (x ∷ []) new
one_adds old x new added = λ y. (
  λ h. elim ((added y).0 h) [ inl a ↦ inl a | inr e ↦ inr (subst (Contains (x ∷ [])) (sym e) (Contains-here x [])) ],
  λ h. (added y).1 (elim h [ inl a ↦ inl a | inr b ↦ elim (Contains-cons_cases x [] y b) [ inl e ↦ inr (sym e) | inr none ↦ absurd (Contains-none y none) ] ]),
)

pub none_adds : {X : Type 0} (old : List X) → Adds old [] old
none_adds old = λ y. (λ h. inl h, λ h. elim h [ inl a ↦ a | inr none ↦ absurd (Contains-none y none) ])

pub more_adds : {X : Type 0} (old xs next ys new : List X) → Adds old xs next → Adds next ys new → Adds old (xs ++ ys) new
more_adds old xs next ys new first second = λ y. (
  λ h. elim ((second y).0 h) [
    | inl a ↦ elim ((first y).0 a) [ inl b ↦ inl b | inr c ↦ inr (Contains-append_left xs ys y c) ]
    | inr d ↦ inr (Contains-append_right xs ys y d)
  ],
  λ h. elim h [
    | inl b ↦ (second y).1 (inl ((first y).1 (inl b)))
    | inr c ↦ elim (Contains-append_cases xs ys y c) [ inl d ↦ (second y).1 (inl ((first y).1 (inr d))) | inr e ↦ (second y).1 (inr e) ]
  ],
)

-- the types of arguments, one more
args_types_next : (args : List (Loc × CType)) (k : ℕ) (x : Loc × CType) → k < length args → x ≡ get_or args k x → flat_map named_types (arg_types (take (k + 1) args)) ≡ flat_map named_types (arg_types (take k args)) ++ named_types x.1
args_types_next args k x within is =
    ap (λ (some : List (Loc × CType)). flat_map named_types (arg_types some)) (take-next args k x within is)
    ∙ (ap (flat_map named_types) (map-append (λ (arg : Loc × CType). arg.1) (take k args) (x ∷ []))
    ∙ (flat_map-append named_types (arg_types (take k args)) (x.1 ∷ []) ∙ ap (λ r. flat_map named_types (arg_types (take k args)) ++ r) (append-nil (named_types x.1))))

pub args_more : (args : List (Loc × CType)) (k : ℕ) (x : Loc × CType) (old now new : List CType) → k < length args → x ≡ get_or args k x → Adds old (flat_map named_types (arg_types (take k args))) now → Adds now (named_types x.1) new → Adds old (flat_map named_types (arg_types (take (k + 1) args))) new
args_more args k x old now new within is first second =
    subst (λ ts. Adds old ts new) (sym (args_types_next args k x within is)) (more_adds old (flat_map named_types (arg_types (take k args))) now (named_types x.1) new first second)

pub args_end : (args : List (Loc × CType)) (k : ℕ) (old now : List CType) → length args ≤ k → Adds old (flat_map named_types (arg_types (take k args))) now → Adds old (flat_map named_types (arg_types args)) now
args_end args k old now end first = subst (λ (some : List (Loc × CType)). Adds old (flat_map named_types (arg_types some)) now) (take_all k args end) first

-- a type is added by its part
abbrev OneMore : (CType → Type 0) → CType → (CType → Type 0) → Type 0
OneMore P u Q = (t : CType) → Q t ↔ (P t ⊎ (t ≡ u))

added_part : (u : Bool) (a b c : List (List ℕ)) (v : Bool) (d e f : List (List ℕ)) (t : CType) → OneMore (PartOf u a b c) t (PartOf v d e f) → IsAdded (kinds_of u a b c) t (kinds_of v d e f)
added_part u a b c v d e f t more = λ x. (
  λ h. elim ((more x).0 (to_part v d e f x h)) [ inl p ↦ inl (from_part u a b c x p) | inr is ↦ inr is ],
  λ h. from_part v d e f x ((more x).1 (elim h [ inl p ↦ inl (to_part u a b c x p) | inr is ↦ inr is ])),
)

scalar_is : (name other : List ℕ) (bits width : ℕ) → Scalar name bits ≡ Scalar other width → (name ≡ other) × (bits ≡ width)
scalar_is name other bits width same = (cc, cc)

pub add_char : (unused : Bool) (chars shorts ints : List (List ℕ)) (name : List ℕ) (more : List (List ℕ)) → IsAdded chars name more → IsAdded (kinds_of unused chars shorts ints) (Scalar name 8) (kinds_of unused more shorts ints)
add_char unused chars shorts ints name more added = added_part unused chars shorts ints unused more shorts ints (Scalar name 8) by
  where
    by : OneMore (PartOf unused chars shorts ints) (Scalar name 8) (PartOf unused more shorts ints)
    by Unused = (λ h. inl h, λ h. elim h [ inl p ↦ p | inr e ↦ absurd (let no : ◌≡◌ {A = CType} Unused (Scalar name 8) = e in cc) ])
    by (Pointer n) = (λ h. absurd h, λ h. elim h [ inl p ↦ p | inr e ↦ absurd (let no : Pointer n ≡ Scalar name 8 = e in cc) ])
    by (Scalar x bits) = (
      λ h. elim h [
        | inl p ↦ elim ((added x).0 p.0) [ inl q ↦ inl (inl (q, p.1)) | inr e ↦ inr (λ i. Scalar (e i) (p.1 i)) ]
        | inr r ↦ inl (inr r)
      ],
      λ h. elim h [
        | inl p ↦ elim p [ inl q ↦ inl ((added x).1 (inl q.0), q.1) | inr r ↦ inr r ]
        | inr e ↦ let s = scalar_is x name bits 8 e in inl ((added x).1 (inr s.0), s.1)
      ],
    )

pub add_short : (unused : Bool) (chars shorts ints : List (List ℕ)) (name : List ℕ) (more : List (List ℕ)) → IsAdded shorts name more → IsAdded (kinds_of unused chars shorts ints) (Scalar name 16) (kinds_of unused chars more ints)
add_short unused chars shorts ints name more added = added_part unused chars shorts ints unused chars more ints (Scalar name 16) by
  where
    by : OneMore (PartOf unused chars shorts ints) (Scalar name 16) (PartOf unused chars more ints)
    by Unused = (λ h. inl h, λ h. elim h [ inl p ↦ p | inr e ↦ absurd (let no : ◌≡◌ {A = CType} Unused (Scalar name 16) = e in cc) ])
    by (Pointer n) = (λ h. absurd h, λ h. elim h [ inl p ↦ p | inr e ↦ absurd (let no : Pointer n ≡ Scalar name 16 = e in cc) ])
    by (Scalar x bits) = (
      λ h. elim h [
        | inl p ↦ inl (inl p)
        | inr r ↦ elim r [
          | inl p ↦ elim ((added x).0 p.0) [ inl q ↦ inl (inr (inl (q, p.1))) | inr e ↦ inr (λ i. Scalar (e i) (p.1 i)) ]
          | inr s ↦ inl (inr (inr s))
        ]
      ],
      λ h. elim h [
        | inl p ↦ elim p [ inl q ↦ inl q | inr r ↦ elim r [ inl q ↦ inr (inl ((added x).1 (inl q.0), q.1)) | inr s ↦ inr (inr s) ] ]
        | inr e ↦ let s = scalar_is x name bits 16 e in inr (inl ((added x).1 (inr s.0), s.1))
      ],
    )

pub add_int : (unused : Bool) (chars shorts ints : List (List ℕ)) (name : List ℕ) (more : List (List ℕ)) → IsAdded ints name more → IsAdded (kinds_of unused chars shorts ints) (Scalar name 32) (kinds_of unused chars shorts more)
add_int unused chars shorts ints name more added = added_part unused chars shorts ints unused chars shorts more (Scalar name 32) by
  where
    by : OneMore (PartOf unused chars shorts ints) (Scalar name 32) (PartOf unused chars shorts more)
    by Unused = (λ h. inl h, λ h. elim h [ inl p ↦ p | inr e ↦ absurd (let no : ◌≡◌ {A = CType} Unused (Scalar name 32) = e in cc) ])
    by (Pointer n) = (λ h. absurd h, λ h. elim h [ inl p ↦ p | inr e ↦ absurd (let no : Pointer n ≡ Scalar name 32 = e in cc) ])
    by (Scalar x bits) = (
      λ h. elim h [
        | inl p ↦ inl (inl p)
        | inr r ↦ elim r [
          | inl p ↦ inl (inr (inl p))
          | inr s ↦ elim ((added x).0 s.0) [ inl q ↦ inl (inr (inr (q, s.1))) | inr e ↦ inr (λ i. Scalar (e i) (s.1 i)) ]
        ]
      ],
      λ h. elim h [
        | inl p ↦ elim p [ inl q ↦ inl q | inr r ↦ elim r [ inl q ↦ inr (inl q) | inr s ↦ inr (inr ((added x).1 (inl s.0), s.1)) ] ]
        | inr e ↦ let s = scalar_is x name bits 32 e in inr (inr ((added x).1 (inr s.0), s.1))
      ],
    )

pub add_unused : (unused : Bool) (chars shorts ints : List (List ℕ)) → Adds (kinds_of unused chars shorts ints) (Unused ∷ []) (kinds_of true chars shorts ints)
add_unused unused chars shorts ints = one_adds (kinds_of unused chars shorts ints) Unused (kinds_of true chars shorts ints) (added_part unused chars shorts ints true chars shorts ints Unused by)
  where
    by : OneMore (PartOf unused chars shorts ints) Unused (PartOf true chars shorts ints)
    by Unused = (λ h. inr refl, λ h. refl)
    by (Pointer n) = (λ h. absurd h, λ h. elim h [ inl p ↦ p | inr e ↦ absurd (let no : ◌≡◌ {A = CType} (Pointer n) Unused = e in cc) ])
    by (Scalar x bits) = (λ h. inl h, λ h. elim h [ inl p ↦ p | inr e ↦ absurd (let no : ◌≡◌ {A = CType} (Scalar x bits) Unused = e in cc) ])

-- a type whose line comes after those of others
pub line_less : (r : Bool) (o : Ordering) (a b x y : List ℕ) → r ≡ is_lt o → o ≡ slice_cmp nat_cmp a b → a ≡ x → b ≡ y → IsTrue r ↔ (slice_cmp nat_cmp x y ≡ Less)
line_less r o a b x y is cmp one two =
    let same : o ≡ slice_cmp nat_cmp x y = cmp ∙ (λ i. slice_cmp nat_cmp (one i) (two i)) in
    (λ t. sym same ∙ less_lt o (sym is ∙ t), λ e. is ∙ ap is_lt (same ∙ e))

last_at : (ts : List CType) (k : ℕ) (d t : CType) → length ts ≡ suc k → LastBefore ts t ↔ (slice_cmp nat_cmp (typedef_text (get_or ts k d)) (typedef_text t) ≡ Less)
last_at [] k d t e = absurd (omega arith)
last_at (x ∷ []) zero d t e = (λ h. h, λ h. h)
last_at (x ∷ []) (suc k) d t e = absurd (omega arith)
last_at (x ∷ y ∷ ts) zero d t e = absurd (omega arith)
last_at (x ∷ y ∷ ts) (suc k) d t e = last_at (y ∷ ts) k d t (omega arith)

pub last_is : (ts : List CType) (k : ℕ) (r t : CType) (b : Bool) → length ts ≡ suc k → r ≡ get_or ts k r → IsTrue b ↔ (slice_cmp nat_cmp (typedef_text r) (typedef_text t) ≡ Less) → IsTrue b ↔ LastBefore ts t
last_is ts k r t b long at tells =
    let both = last_at ts k r t long in
    let test : IsTrue b ↔ (slice_cmp nat_cmp (typedef_text (get_or ts k r)) (typedef_text t) ≡ Less) = subst (λ u. IsTrue b ↔ (slice_cmp nat_cmp (typedef_text u) (typedef_text t) ≡ Less)) at tells in
    (λ h. both.1 (test.0 h), λ h. test.1 (both.0 h))

-- a list of arguments, one by one
pub all_types : (P : CType → Type 0) (args : List (Loc × CType)) → All (λ (arg : Loc × CType). P arg.1) args ↔ All P (arg_types args)
all_types P [] = (λ h. All-nil P, λ h. All-nil (λ (arg : Loc × CType). P arg.1))
all_types P (arg ∷ args) =
    let rest = all_types P args in (
      λ h. All-cons P arg.1 (arg_types args) (All-head (λ (a : Loc × CType). P a.1) arg args h) (rest.0 (All-tail (λ (a : Loc × CType). P a.1) arg args h)),
      λ h. All-cons (λ (a : Loc × CType). P a.1) arg args (All-head P arg.1 (arg_types args) h) (rest.1 (All-tail P arg.1 (arg_types args) h)),
    )

pub all_args : (P : CType → Type 0) (args : List (Loc × CType)) (r : Bool) → IsTrue r ↔ All (λ (arg : Loc × CType). P arg.1) args → IsTrue r ↔ All P (arg_types args)
all_args P args r test = let both = all_types P args in (λ t. both.0 (test.0 t), λ h. test.1 (both.1 h))

-- each of a list, one by one
pub all_not : {X : Type 0} (P : X → Type 0) (xs : List X) (k : ℕ) (x : X) → k < length xs → x ≡ get_or xs k x → IsTrue false ↔ P x → IsTrue false ↔ All P xs
all_not P xs k x within is test = (λ t. absurd (false≢true t), λ all. test.1 (All-contains P xs x all (k, within, sym is)))

pub all_end : {X : Type 0} (P : X → Type 0) (xs : List X) (k : ℕ) → length xs ≤ k → All P (take k xs) → IsTrue true ↔ All P xs
all_end P xs k end all = (λ t. subst (All P) (take_all k xs end) all, λ h. refl)

pub all_more : {X : Type 0} (P : X → Type 0) (xs : List X) (k : ℕ) (x : X) → k < length xs → x ≡ get_or xs k x → IsTrue true ↔ P x → All P (take k xs) → All P (take (k + 1) xs)
all_more P xs k x within is test all = All-more P xs k x within all (subst P is (test.0 refl))

-- a set of types with a scalar more
pub added_char : (unused : Bool) (chars shorts ints : List (List ℕ)) (now : List CType) (name : List ℕ) (bits : ℕ) (more : List (List ℕ)) → kinds_of unused chars shorts ints ≡ now → bits ≡ 8 → IsAdded chars name more → IsAdded now (Scalar name bits) (kinds_of unused more shorts ints)
added_char unused chars shorts ints now name bits more view is added =
    subst (λ (ts : List CType). IsAdded ts (Scalar name bits) (kinds_of unused more shorts ints)) view
    (subst (λ b. IsAdded (kinds_of unused chars shorts ints) (Scalar name b) (kinds_of unused more shorts ints)) (sym is) (add_char unused chars shorts ints name more added))

pub added_short : (unused : Bool) (chars shorts ints : List (List ℕ)) (now : List CType) (name : List ℕ) (bits : ℕ) (more : List (List ℕ)) → kinds_of unused chars shorts ints ≡ now → bits ≡ 16 → IsAdded shorts name more → IsAdded now (Scalar name bits) (kinds_of unused chars more ints)
added_short unused chars shorts ints now name bits more view is added =
    subst (λ (ts : List CType). IsAdded ts (Scalar name bits) (kinds_of unused chars more ints)) view
    (subst (λ b. IsAdded (kinds_of unused chars shorts ints) (Scalar name b) (kinds_of unused chars more ints)) (sym is) (add_short unused chars shorts ints name more added))

pub added_int : (unused : Bool) (chars shorts ints : List (List ℕ)) (now : List CType) (name : List ℕ) (bits : ℕ) (more : List (List ℕ)) → kinds_of unused chars shorts ints ≡ now → bits ≡ 32 → IsAdded ints name more → IsAdded now (Scalar name bits) (kinds_of unused chars shorts more)
added_int unused chars shorts ints now name bits more view is added =
    subst (λ (ts : List CType). IsAdded ts (Scalar name bits) (kinds_of unused chars shorts more)) view
    (subst (λ b. IsAdded (kinds_of unused chars shorts ints) (Scalar name b) (kinds_of unused chars shorts more)) (sym is) (add_int unused chars shorts ints name more added))

pub wide_left : (bits : ℕ) → IsWidth bits → (bits ≡ 8 → ⊥) → (bits ≡ 16 → ⊥) → bits ≡ 32
wide_left bits (inl e) a b = absurd (a e)
wide_left bits (inr (inl e)) a b = absurd (b e)
wide_left bits (inr (inr e)) a b = e

-- what a type adds, by its kind
pub adds_scalar : (old new : List CType) (t : CType) (name text : List ℕ) (bits : ℕ) → t ≡ Scalar name bits → text ≡ name → IsAdded old (Scalar text bits) new → Adds old (named_types t) new
adds_scalar old new t name text bits is same added =
    subst (λ u. Adds old (named_types u) new) (sym is) (subst (λ n. Adds old (Scalar n bits ∷ []) new) same (one_adds old (Scalar text bits) new added))

pub adds_unused : (unused : Bool) (chars shorts ints : List (List ℕ)) (now : List CType) (t : CType) → kinds_of unused chars shorts ints ≡ now → t ≡ Unused → Adds now (named_types t) (kinds_of true chars shorts ints)
adds_unused unused chars shorts ints now t view is =
    subst (λ u. Adds now (named_types u) (kinds_of true chars shorts ints)) (sym is)
    (subst (λ (ts : List CType). Adds ts (Unused ∷ []) (kinds_of true chars shorts ints)) view (add_unused unused chars shorts ints))

-- what a function's line adds
pub value_adds : (used mid new : List CType) (returns : Returns) (args : List (Loc × CType)) (t : CType) → returns ≡ Value t → Adds used (flat_map named_types (arg_types args)) mid → Adds mid (named_types t) new → Adds used (line_types returns args) new
value_adds used mid new returns args t is first second =
    subst (λ (r : Returns). Adds used (line_types r args) new) (sym is) (more_adds used (flat_map named_types (arg_types args)) mid (named_types t) new first second)

pub no_value_adds : (used new : List CType) (returns : Returns) (args : List (Loc × CType)) → ((t : CType) → returns ≡ Value t → ⊥) → Adds used (flat_map named_types (arg_types args)) new → Adds used (line_types returns args) new
no_value_adds used new Nothing args off first = subst (λ ts. Adds used ts new) (sym (append-nil (flat_map named_types (arg_types args)))) first
no_value_adds used new (Value t) args off first = absurd (off t refl)
no_value_adds used new Both args off first = subst (λ ts. Adds used ts new) (sym (append-nil (flat_map named_types (arg_types args)))) first

-- a list with a type more that has a line, and a set of its types
pub listed_more : (set list new grown : List CType) (t : CType) → IsTypedef t → ((k : CType) → Contains set k ↔ Contains list k) → Adds set (named_types t) new → grown ≡ list ++ t ∷ [] → (k : CType) → Contains new k ↔ Contains grown k
listed_more set list new grown t good same added is k =
    let one : named_types t ≡ t ∷ [] = own t good in
    subst (λ ts. Contains new k ↔ Contains ts k) (sym is) (
      λ h. elim ((added k).0 h) [
        | inl a ↦ Contains-append_left list (t ∷ []) k ((same k).0 a)
        | inr b ↦ Contains-append_right list (t ∷ []) k (subst (λ ts. Contains ts k) one b)
      ],
      λ h. (added k).1 (elim (Contains-append_cases list (t ∷ []) k h) [ inl a ↦ inl ((same k).1 a) | inr b ↦ inr (subst (λ ts. Contains ts k) (sym one) b) ]),
    )
  where
    own : (u : CType) → IsTypedef u → named_types u ≡ u ∷ []
    own Unused fine = refl
    own (Scalar name bits) fine = refl
    own (Pointer n) fine = absurd fine
