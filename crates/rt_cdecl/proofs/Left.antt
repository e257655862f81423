-- The types that are left: names and types that are taken out, and what each line leaves.
use Rattle.std.proofs.Common.{◌≡◌, ℕ, suc, ◌+◌, ◌<◌, ◌≤◌, ◌^◌, ◌⊎◌, inl, inr, ◌↔◌, IsTrue, nat_lt, Bool, true, false, cond, List, [], ◌∷◌, ◌++◌, All, Contains, get_or, take, take_all, map, length, refl, ap, sym, subst, ◌∙◌, arith, append-nil}
use Rattle.std.specs.List.{flat_map, AllByRecursion}
use Rattle.std.specs.List.Sorted.{IsStrictlySortedBy}
use Rattle.std.specs.Set.{remove_key}
use Rattle.std.specs.Ordering.{is_eq, nat_cmp}
use Rattle.std.specs.Cmp.Lexicographic.{slice_cmp, texts_ties}
use Rattle.std.specs.declared.cmp.Ordering.{Ordering}
use Rattle.std.specs.declared.cmp.Ordering.TheVariants.{Less}
use Rattle.std.proofs.lemmas.Bool.{false≢true}
use Rattle.std.proofs.lemmas.Bool.Decides.{nat_tests}
use Rattle.std.proofs.lemmas.Slice.Eq.{bytes_eq-Decides}
use Rattle.std.proofs.lemmas.List.{map-append}
use Rattle.std.proofs.lemmas.Grind.{flat_map-append}
use Rattle.std.proofs.lemmas.List.Elements.{All-contains, Contains-append_left, Contains-append_right, Contains-append_cases}
use Rattle.rt_base.proofs.Lists.{Contains-none, Contains-here, Contains-there, Contains-cons_cases, take-next, All-from_contains}
use Rattle.rt_lines.specs.declared.label.Loc.{Loc}
use Rattle.rt_cdecl.specs.declared.declarations.CType.{CType}
use Rattle.rt_cdecl.specs.declared.declarations.CType.TheVariants.{Unused, Scalar, Pointer}
use Rattle.rt_cdecl.specs.Types.{IsTypedef}
use Rattle.rt_cdecl.specs.Rows.{Row, Typedef, Named, Opened, Gap, Member, Closed, Pair, Half, Stated, Returns, Nothing, Value, Both}
use Rattle.rt_cdecl.specs.GoodDecls.{named_types, used_types, arg_types}
use Rattle.rt_cdecl.specs.Inside.Drafts.{Idle, Parts, no_parts, with_row, Fits, Adds, kinds_of, line_types, stage_types}
use Rattle.rt_cdecl.specs.declared.kinds.Counts.{Counts}
use Rattle.rt_cdecl.specs.Inside.GoodRows.{IsRow}
use Rattle.rt_cdecl.specs.Inside.Steps.{HasMore, IsSound, parts_of}
use Rattle.rt_cdecl.specs.declared.draft.Draft.{Draft}
use Rattle.rt_cdecl.specs.Inside.Endings.{AreApart, AreCounted, AreLeft, CanEnd, Drops, HasRoom, IsDropped, IsFew, IsReached, IsZero, HasInt, all_used, row_types}
use Rattle.rt_cdecl.proofs.Sound.{none_left}
use Rattle.rt_cdecl.proofs.Kept.{IsGood, good_start, good_all}
use Rattle.rt_cdecl.proofs.KindSets.{PartOf, part_of}
use Rattle.rt_cdecl.proofs.Phases.{IsPhased, phase_all, used_row, good_gives}
use Rattle.rt_cdecl.proofs.Needing.{needs_room}
use Rattle.rt_cdecl.proofs.Endings.{few_counts, room_ends}

-- names that are taken out of a set
module _ {K : Type 0} (bytes : K → List ℕ) where
  abbrev name_cmp : K → K → Ordering
  name_cmp a b = slice_cmp nat_cmp (bytes a) (bytes b)

  unlike : (x : K) (xs : List K) → AllByRecursion (λ y. name_cmp x y ≡ Less) xs → Contains (map bytes xs) (bytes x) → ⊥
  unlike x [] below h = Contains-none (bytes x) h
  unlike x (y ∷ xs) below h =
      elim (Contains-cons_cases (bytes y) (map bytes xs) (bytes x) h) [
        | inl e ↦
            let tie : is_eq (name_cmp x y) ≡ true = sym (texts_ties (bytes x) (bytes y)) ∙ (bytes_eq-Decides (bytes x) (bytes y)).1 (sym e) in
            false≢true (ap is_eq (sym below.0) ∙ tie)
        | inr there ↦ unlike x xs below.1 there
      ]

  pub sorted_apart : (keys : List K) → IsStrictlySortedBy name_cmp keys → AreApart (map bytes keys)
  unfolding IsStrictlySortedBy
  sorted_apart [] sorted = tt
  sorted_apart (x ∷ keys) sorted = (unlike x keys sorted.0, sorted_apart keys sorted.1)

  abbrev is_name : List ℕ → K → Bool
  is_name name k = is_eq (slice_cmp nat_cmp name (bytes k))

  named_so : (name : List ℕ) (k : K) → is_name name k ≡ true → name ≡ bytes k
  named_so name k t = (bytes_eq-Decides name (bytes k)).0 (texts_ties name (bytes k) ∙ t)

  named_not : (name : List ℕ) (k : K) → is_name name k ≡ false → name ≡ bytes k → ⊥
  named_not name k f e = false≢true (sym f ∙ (sym (texts_ties name (bytes k)) ∙ (bytes_eq-Decides name (bytes k)).1 e))

  removed_at : (name : List ℕ) (x : K) (keys : List K) → AreApart (bytes x ∷ map bytes keys) → IsDropped (map bytes keys) name (map bytes (remove_key (is_name name) keys)) → (t : Bool) → is_name name x ≡ t →
      IsDropped (bytes x ∷ map bytes keys) name (map bytes (cond t keys (x ∷ remove_key (is_name name) keys)))
  removed_at name x keys apart rest true e = λ n. (
    λ h. (Contains-there (bytes x) (map bytes keys) n h, λ same. apart.0 (subst (Contains (map bytes keys)) (same ∙ named_so name x e) h)),
    λ h. elim (Contains-cons_cases (bytes x) (map bytes keys) n h) [ inl is ↦ inr (sym is ∙ sym (named_so name x e)) | inr there ↦ inl there ],
  )
  removed_at name x keys apart rest false e = λ n. (
    λ h. elim (Contains-cons_cases (bytes x) (map bytes (remove_key (is_name name) keys)) n h) [
      | inl is ↦ (subst (Contains (bytes x ∷ map bytes keys)) is (Contains-here (bytes x) (map bytes keys)), λ same. named_not name x e (sym same ∙ sym is))
      | inr there ↦ let old = (rest n).0 there in (Contains-there (bytes x) (map bytes keys) n old.0, old.1)
    ],
    λ h. elim (Contains-cons_cases (bytes x) (map bytes keys) n h) [
      | inl is ↦ inl (subst (Contains (bytes x ∷ map bytes (remove_key (is_name name) keys))) is (Contains-here (bytes x) (map bytes (remove_key (is_name name) keys))))
      | inr there ↦ elim ((rest n).1 there) [ inl new ↦ inl (Contains-there (bytes x) (map bytes (remove_key (is_name name) keys)) n new) | inr same ↦ inr same ]
    ],
  )

  removed : (name : List ℕ) (keys : List K) → AreApart (map bytes keys) → IsDropped (map bytes keys) name (map bytes (remove_key (is_name name) keys))
  removed name [] apart = λ n. (λ h. absurd (Contains-none n h), λ h. absurd (Contains-none n h))
  removed name (x ∷ keys) apart = removed_at name x keys apart (removed name keys apart.1) (is_name name x) refl

  pub names_removed : (keys more : List K) (name : List ℕ) (names : List (List ℕ)) → map bytes keys ≡ names → AreApart (map bytes keys) → more ≡ remove_key (is_name name) keys → IsDropped names name (map bytes more)
  names_removed keys more name names view apart is =
      subst (λ ns. IsDropped ns name (map bytes more)) view
      (subst (λ (ks : List K). IsDropped (map bytes keys) name (map bytes ks)) (sym is) (removed name keys apart))

-- types that are taken out of a set
abbrev OneLess : (CType → Type 0) → CType → (CType → Type 0) → Type 0
OneLess P u Q = (t : CType) → (Q t → P t × (t ≡ u → ⊥)) × (P t → Q t ⊎ (t ≡ u))

dropped_part : (u : Bool) (a b c : List (List ℕ)) (v : Bool) (d e f : List (List ℕ)) (t : CType) → OneLess (PartOf u a b c) t (PartOf v d e f) → IsDropped (kinds_of u a b c) t (kinds_of v d e f)
dropped_part u a b c v d e f t less = λ x. (
  λ h. let now = (less x).0 ((part_of v d e f x).0 h) in ((part_of u a b c x).1 now.0, now.1),
  λ h. elim ((less x).1 ((part_of u a b c x).0 h)) [ inl p ↦ inl ((part_of v d e f x).1 p) | inr same ↦ inr same ],
)

scalar_is : (name other : List ℕ) (bits width : ℕ) → Scalar name bits ≡ Scalar other width → (name ≡ other) × (bits ≡ width)
scalar_is name other bits width same = (cc, cc)

no_unused : (name : List ℕ) (bits : ℕ) → Unused ≡ Scalar name bits → ⊥
no_unused name bits same = cc

no_scalar : (name : List ℕ) (bits : ℕ) → Scalar name bits ≡ Unused → ⊥
no_scalar name bits same = cc

less_char : (unused : Bool) (chars shorts ints : List (List ℕ)) (name : List ℕ) (more : List (List ℕ)) → IsDropped chars name more → IsDropped (kinds_of unused chars shorts ints) (Scalar name 8) (kinds_of unused more shorts ints)
less_char unused chars shorts ints name more gone = dropped_part unused chars shorts ints unused more shorts ints (Scalar name 8) by
  where
    by : OneLess (PartOf unused chars shorts ints) (Scalar name 8) (PartOf unused more shorts ints)
    by Unused = (λ h. (h, λ e. no_unused name 8 e), λ h. inl h)
    by (Pointer n) = (λ h. absurd h, λ h. absurd h)
    by (Scalar x bits) = (
      λ h. elim h [
        | inl p ↦ let old = (gone x).0 p.0 in (inl (old.0, p.1), λ e. old.1 (scalar_is x name bits 8 e).0)
        | inr r ↦ (
          inr r,
          λ e. elim r [
            | inl q ↦ let a = (scalar_is x name bits 8 e).1 in let b = q.1 in omega (arith, a, b)
            | inr q ↦ let a = (scalar_is x name bits 8 e).1 in let b = q.1 in omega (arith, a, b)
          ],
        )
      ],
      λ h. elim h [
        | inl p ↦ elim ((gone x).1 p.0) [ inl q ↦ inl (inl (q, p.1)) | inr same ↦ inr (λ i. Scalar (same i) (p.1 i)) ]
        | inr r ↦ inl (inr r)
      ],
    )

less_short : (unused : Bool) (chars shorts ints : List (List ℕ)) (name : List ℕ) (more : List (List ℕ)) → IsDropped shorts name more → IsDropped (kinds_of unused chars shorts ints) (Scalar name 16) (kinds_of unused chars more ints)
less_short unused chars shorts ints name more gone = dropped_part unused chars shorts ints unused chars more ints (Scalar name 16) by
  where
    by : OneLess (PartOf unused chars shorts ints) (Scalar name 16) (PartOf unused chars more ints)
    by Unused = (λ h. (h, λ e. no_unused name 16 e), λ h. inl h)
    by (Pointer n) = (λ h. absurd h, λ h. absurd h)
    by (Scalar x bits) = (
      λ h. elim h [
        | inl p ↦ (inl p, λ e. let a = (scalar_is x name bits 16 e).1 in let b = p.1 in omega (arith, a, b))
        | inr r ↦ elim r [
          | inl p ↦ let old = (gone x).0 p.0 in (inr (inl (old.0, p.1)), λ e. old.1 (scalar_is x name bits 16 e).0)
          | inr q ↦ (inr (inr q), λ e. let a = (scalar_is x name bits 16 e).1 in let b = q.1 in omega (arith, a, b))
        ]
      ],
      λ h. elim h [
        | inl p ↦ inl (inl p)
        | inr r ↦ elim r [
          | inl p ↦ elim ((gone x).1 p.0) [ inl q ↦ inl (inr (inl (q, p.1))) | inr same ↦ inr (λ i. Scalar (same i) (p.1 i)) ]
          | inr q ↦ inl (inr (inr q))
        ]
      ],
    )

less_int : (unused : Bool) (chars shorts ints : List (List ℕ)) (name : List ℕ) (more : List (List ℕ)) → IsDropped ints name more → IsDropped (kinds_of unused chars shorts ints) (Scalar name 32) (kinds_of unused chars shorts more)
less_int unused chars shorts ints name more gone = dropped_part unused chars shorts ints unused chars shorts more (Scalar name 32) by
  where
    by : OneLess (PartOf unused chars shorts ints) (Scalar name 32) (PartOf unused chars shorts more)
    by Unused = (λ h. (h, λ e. no_unused name 32 e), λ h. inl h)
    by (Pointer n) = (λ h. absurd h, λ h. absurd h)
    by (Scalar x bits) = (
      λ h. elim h [
        | inl p ↦ (inl p, λ e. let a = (scalar_is x name bits 32 e).1 in let b = p.1 in omega (arith, a, b))
        | inr r ↦ elim r [
          | inl q ↦ (inr (inl q), λ e. let a = (scalar_is x name bits 32 e).1 in let b = q.1 in omega (arith, a, b))
          | inr p ↦ let old = (gone x).0 p.0 in (inr (inr (old.0, p.1)), λ e. old.1 (scalar_is x name bits 32 e).0)
        ]
      ],
      λ h. elim h [
        | inl p ↦ inl (inl p)
        | inr r ↦ elim r [
          | inl q ↦ inl (inr (inl q))
          | inr p ↦ elim ((gone x).1 p.0) [ inl q ↦ inl (inr (inr (q, p.1))) | inr same ↦ inr (λ i. Scalar (same i) (p.1 i)) ]
        ]
      ],
    )

less_unused : (unused : Bool) (chars shorts ints : List (List ℕ)) → IsDropped (kinds_of unused chars shorts ints) Unused (kinds_of false chars shorts ints)
less_unused unused chars shorts ints = dropped_part unused chars shorts ints false chars shorts ints Unused by
  where
    by : OneLess (PartOf unused chars shorts ints) Unused (PartOf false chars shorts ints)
    by Unused = (λ h. absurd (false≢true h), λ h. inr refl)
    by (Pointer n) = (λ h. absurd h, λ h. absurd h)
    by (Scalar x bits) = (λ h. (h, λ e. no_scalar x bits e), λ h. inl h)

-- a set with a scalar less
pub dropped_char : (unused : Bool) (chars shorts ints : List (List ℕ)) (now : List CType) (name : List ℕ) (bits : ℕ) (more : List (List ℕ)) → kinds_of unused chars shorts ints ≡ now → bits ≡ 8 → IsDropped chars name more → IsDropped now (Scalar name bits) (kinds_of unused more shorts ints)
dropped_char unused chars shorts ints now name bits more view is gone =
    subst (λ (ts : List CType). IsDropped ts (Scalar name bits) (kinds_of unused more shorts ints)) view
    (subst (λ b. IsDropped (kinds_of unused chars shorts ints) (Scalar name b) (kinds_of unused more shorts ints)) (sym is) (less_char unused chars shorts ints name more gone))

pub dropped_short : (unused : Bool) (chars shorts ints : List (List ℕ)) (now : List CType) (name : List ℕ) (bits : ℕ) (more : List (List ℕ)) → kinds_of unused chars shorts ints ≡ now → bits ≡ 16 → IsDropped shorts name more → IsDropped now (Scalar name bits) (kinds_of unused chars more ints)
dropped_short unused chars shorts ints now name bits more view is gone =
    subst (λ (ts : List CType). IsDropped ts (Scalar name bits) (kinds_of unused chars more ints)) view
    (subst (λ b. IsDropped (kinds_of unused chars shorts ints) (Scalar name b) (kinds_of unused chars more ints)) (sym is) (less_short unused chars shorts ints name more gone))

pub dropped_int : (unused : Bool) (chars shorts ints : List (List ℕ)) (now : List CType) (name : List ℕ) (bits : ℕ) (more : List (List ℕ)) → kinds_of unused chars shorts ints ≡ now → bits ≡ 32 → IsDropped ints name more → IsDropped now (Scalar name bits) (kinds_of unused chars shorts more)
dropped_int unused chars shorts ints now name bits more view is gone =
    subst (λ (ts : List CType). IsDropped ts (Scalar name bits) (kinds_of unused chars shorts more)) view
    (subst (λ b. IsDropped (kinds_of unused chars shorts ints) (Scalar name b) (kinds_of unused chars shorts more)) (sym is) (less_int unused chars shorts ints name more gone))

-- types that are taken out one after the other
one_drops : (old new : List CType) (t : CType) → IsDropped old t new → Drops old (t ∷ []) new
one_drops old new t gone = λ x. (
  λ h. let now = (gone x).0 h in (now.0, λ c. elim (Contains-cons_cases t [] x c) [ inl e ↦ now.1 (sym e) | inr none ↦ absurd (Contains-none x none) ]),
  λ h. elim ((gone x).1 h) [ inl a ↦ inl a | inr e ↦ inr (subst (Contains (t ∷ [])) (sym e) (Contains-here t [])) ],
)

no_drops : (old : List CType) → Drops old [] old
no_drops old = λ x. (λ h. (h, λ c. absurd (Contains-none x c)), λ h. inl h)

more_drops : (old first mid second new : List CType) → Drops old first mid → Drops mid second new → Drops old (first ++ second) new
more_drops old first mid second new a b = λ x. (
  λ h. let late = (b x).0 h in let early = (a x).0 late.0 in (early.0, λ c. elim (Contains-append_cases first second x c) [ inl p ↦ early.1 p | inr q ↦ late.1 q ]),
  λ h. elim ((a x).1 h) [
    | inl m ↦ elim ((b x).1 m) [ inl n ↦ inl n | inr q ↦ inr (Contains-append_right first second x q) ]
    | inr p ↦ inr (Contains-append_left first second x p)
  ],
)

pub drops_scalar : (old new : List CType) (t : CType) (name text : List ℕ) (bits : ℕ) → t ≡ Scalar name bits → text ≡ name → IsDropped old (Scalar text bits) new → Drops old (named_types t) new
drops_scalar old new t name text bits is same gone =
    subst (λ u. Drops old (named_types u) new) (sym is) (subst (λ n. Drops old (Scalar n bits ∷ []) new) same (one_drops old new (Scalar text bits) gone))

pub drops_unused : (unused : Bool) (chars shorts ints : List (List ℕ)) (now : List CType) (t : CType) → kinds_of unused chars shorts ints ≡ now → t ≡ Unused → Drops now (named_types t) (kinds_of false chars shorts ints)
drops_unused unused chars shorts ints now t view is =
    subst (λ u. Drops now (named_types u) (kinds_of false chars shorts ints)) (sym is)
    (subst (λ (ts : List CType). Drops ts (Unused ∷ []) (kinds_of false chars shorts ints)) view (one_drops (kinds_of unused chars shorts ints) (kinds_of false chars shorts ints) Unused (less_unused unused chars shorts ints)))

pub drops_pointer : (now : List CType) (t : CType) (n : ℕ) → t ≡ Pointer n → Drops now (named_types t) now
drops_pointer now t n is = subst (λ u. Drops now (named_types u) now) (sym is) (no_drops now)

args_types_next : (args : List (Loc × CType)) (k : ℕ) (x : Loc × CType) → k < length args → x ≡ get_or args k x → flat_map named_types (arg_types (take (k + 1) args)) ≡ flat_map named_types (arg_types (take k args)) ++ named_types x.1
args_types_next args k x within is =
    ap (λ (some : List (Loc × CType)). flat_map named_types (arg_types some)) (take-next args k x within is)
    ∙ (ap (flat_map named_types) (map-append (λ (arg : Loc × CType). arg.1) (take k args) (x ∷ []))
    ∙ (flat_map-append named_types (arg_types (take k args)) (x.1 ∷ []) ∙ ap (λ r. flat_map named_types (arg_types (take k args)) ++ r) (append-nil (named_types x.1))))

pub args_less : (args : List (Loc × CType)) (k : ℕ) (x : Loc × CType) (old now new : List CType) → k < length args → x ≡ get_or args k x → Drops old (flat_map named_types (arg_types (take k args))) now → Drops now (named_types x.1) new → Drops old (flat_map named_types (arg_types (take (k + 1) args))) new
args_less args k x old now new within is first second =
    subst (λ ts. Drops old ts new) (sym (args_types_next args k x within is)) (more_drops old (flat_map named_types (arg_types (take k args))) now (named_types x.1) new first second)

pub args_gone : (args : List (Loc × CType)) (k : ℕ) (old now : List CType) → length args ≤ k → Drops old (flat_map named_types (arg_types (take k args))) now → Drops old (flat_map named_types (arg_types args)) now
args_gone args k old now end first = subst (λ (some : List (Loc × CType)). Drops old (flat_map named_types (arg_types some)) now) (take_all k args end) first

pub value_drops : (used mid new : List CType) (returns : Returns) (args : List (Loc × CType)) (t : CType) → returns ≡ Value t → Drops used (flat_map named_types (arg_types args)) mid → Drops mid (named_types t) new → Drops used (line_types returns args) new
value_drops used mid new returns args t is first second =
    subst (λ (r : Returns). Drops used (line_types r args) new) (sym is) (more_drops used (flat_map named_types (arg_types args)) mid (named_types t) new first second)

pub no_value_drops : (used new : List CType) (returns : Returns) (args : List (Loc × CType)) → ((t : CType) → returns ≡ Value t → ⊥) → Drops used (flat_map named_types (arg_types args)) new → Drops used (line_types returns args) new
no_value_drops used new Nothing args off first = subst (λ ts. Drops used ts new) (sym (append-nil (flat_map named_types (arg_types args)))) first
no_value_drops used new (Value t) args off first = absurd (off t refl)
no_value_drops used new Both args off first = subst (λ ts. Drops used ts new) (sym (append-nil (flat_map named_types (arg_types args)))) first

-- what is left after types are used
left_more : (left new gone : List CType) (old now : Parts) → now.typedefs ≡ old.typedefs → AreLeft left old → Drops left gone new → ((t : CType) → Contains (all_used old ++ gone) t ↔ Contains (all_used now) t) → AreLeft new now
left_more left new gone old now same leaves drops used = λ t. (
  λ h.
      let before = (drops t).0 h in
      let was = (leaves t).0 before.0 in (
        subst (λ ts. Contains ts t) (sym same) was.0,
        λ c. elim (Contains-append_cases (all_used old) gone t ((used t).1 c)) [ inl a ↦ was.1 a | inr b ↦ before.1 b ],
      ),
  λ h. elim ((leaves t).1 (subst (λ ts. Contains ts t) same h)) [
    | inl l ↦ elim ((drops t).1 l) [ inl n ↦ inl n | inr g ↦ inr ((used t).0 (Contains-append_right (all_used old) gone t g)) ]
    | inr a ↦ inr ((used t).0 (Contains-append_left (all_used old) gone t a))
  ],
)

-- what is left after a type is listed
left_typedef : (left new : List CType) (t : CType) (old now : Parts) → IsTypedef t → ((u : CType) → Contains (all_used old) u → ⊥) → all_used now ≡ all_used old → now.typedefs ≡ old.typedefs ++ t ∷ [] → AreLeft left old → Adds left (named_types t) new → AreLeft new now
left_typedef left new t old now good none same more leaves added = λ u. (
  λ h. (
    subst (λ ts. Contains ts u) (sym more) (elim ((added u).0 h) [
      | inl a ↦ Contains-append_left old.typedefs (t ∷ []) u ((leaves u).0 a).0
      | inr b ↦ Contains-append_right old.typedefs (t ∷ []) u (subst (λ ts. Contains ts u) own b)
    ]),
    λ c. none u (subst (λ ts. Contains ts u) same c),
  ),
  λ h. elim (Contains-append_cases old.typedefs (t ∷ []) u (subst (λ ts. Contains ts u) more h)) [
    | inl a ↦ elim ((leaves u).1 a) [ inl l ↦ inl ((added u).1 (inl l)) | inr used ↦ absurd (none u used) ]
    | inr b ↦ inl ((added u).1 (inr (subst (λ ts. Contains ts u) (sym own) b)))
  ],
)
  where
    own_types : (v : CType) → IsTypedef v → named_types v ≡ v ∷ []
    own_types Unused fine = refl
    own_types (Scalar name bits) fine = refl
    own_types (Pointer n) fine = absurd fine

    own : named_types t ≡ t ∷ []
    own = own_types t good

-- all types are used exactly where none is left
pub none_left_used : (left : List CType) (parts : Parts) → AreLeft left parts → parts.stage ≡ Idle → (left ≡ []) ↔ All (Contains (used_types parts.structs parts.functions)) parts.typedefs
none_left_used left parts leaves idle = (
  λ none. All-from_contains (Contains (used_types parts.structs parts.functions)) parts.typedefs (λ t h. elim ((leaves t).1 h) [
    | inl l ↦ absurd (Contains-none t (subst (λ ts. Contains ts t) none l))
    | inr used ↦ subst (λ ts. Contains ts t) plain used
  ]),
  λ all. empty left (λ t h. let at = (leaves t).0 h in at.1 (subst (λ ts. Contains ts t) (sym plain) (All-contains (Contains (used_types parts.structs parts.functions)) parts.typedefs t all at.0))),
)
  where
    plain : all_used parts ≡ used_types parts.structs parts.functions
    plain = ap (λ s. used_types parts.structs parts.functions ++ stage_types s) idle ∙ append-nil (used_types parts.structs parts.functions)

    empty : (ts : List CType) → ((t : CType) → Contains ts t → ⊥) → ts ≡ []
    empty [] off = refl
    empty (t ∷ ts) off = absurd (off t (Contains-here t ts))

-- what counts tell
ints_none : (u : Bool) (c s : List (List ℕ)) (name : List ℕ) → PartOf u c s [] (Scalar name 32) → ⊥
ints_none u c s name (inl (there, e)) = omega (arith, e)
ints_none u c s name (inr (inl (there, e))) = omega (arith, e)
ints_none u c s name (inr (inr (there, e))) = Contains-none name there

some_more : (r n : ℕ) → r ≡ suc n → IsTrue (nat_lt 0 r)
some_more r n is = grind (arith, nat_tests)

no_more : (r : ℕ) → r ≡ 0 → IsTrue (nat_lt 0 r) → ⊥
no_more r is t = grind (arith, nat_tests)

pub ints_has : (u : Bool) (c s i : List (List ℕ)) (now : List CType) (r : ℕ) → kinds_of u c s i ≡ now → r ≡ length i → IsTrue (nat_lt 0 r) ↔ HasInt now
ints_has u c s [] now r view is = (
  λ t. absurd (no_more r is t),
  λ h. absurd (ints_none u c s h.0 ((part_of u c s [] (Scalar h.0 32)).0 (subst (λ ts. Contains ts (Scalar h.0 32)) (sym view) h.1))),
)
ints_has u c s (n ∷ i) now r view is = (
  λ t. (n, subst (λ ts. Contains ts (Scalar n 32)) view ((part_of u c s (n ∷ i) (Scalar n 32)).1 (inr (inr (Contains-here n i, refl))))),
  λ h. some_more r (length i) is,
)

no_names : (names : List (List ℕ)) → length names ≡ 0 → names ≡ []
no_names [] none = refl
no_names (n ∷ names) none = absurd (omega (arith, none))

empty_parts : (u : Bool) (c s i : List (List ℕ)) → kinds_of u c s i ≡ [] → (u ≡ false) × (length c ≡ 0) × (length s ≡ 0) × (length i ≡ 0)
empty_parts true c s i none = absurd (let clash : Unused ∷ kinds_of false c s i ≡ [] = none in cc)
empty_parts false (n ∷ c) s i none = absurd (let clash : Scalar n 8 ∷ kinds_of false c s i ≡ [] = none in cc)
empty_parts false [] (n ∷ s) i none = absurd (let clash : Scalar n 16 ∷ kinds_of false [] s i ≡ [] = none in cc)
empty_parts false [] [] (n ∷ i) none = absurd (let clash : Scalar n 32 ∷ kinds_of false [] [] i ≡ [] = none in cc)
empty_parts false [] [] [] none = (refl, refl, refl, refl)

pub zero_empty : (types : List CType) (counts : Counts) (r : Bool) → AreCounted types counts → IsTrue r ↔ IsZero counts → IsTrue r ↔ (types ≡ [])
zero_empty types counts r counted test = (λ t. by (test.0 t), λ none. back (empty_parts counts.unused counted.chars counted.shorts counted.ints (sym counted.are ∙ none)))
  where
    by : IsZero counts → types ≡ []
    by (u, c, s, i) =
        let a : counted.chars ≡ [] = no_names counted.chars (counted.chars_are ∙ c) in
        let b : counted.shorts ≡ [] = no_names counted.shorts (counted.shorts_are ∙ s) in
        let d : counted.ints ≡ [] = no_names counted.ints (counted.ints_are ∙ i) in
        counted.are ∙ (λ k. kinds_of (u k) (a k) (b k) (d k))

    back : (counts.unused ≡ false) × (length counted.chars ≡ 0) × (length counted.shorts ≡ 0) × (length counted.ints ≡ 0) → IsTrue r
    back (u, c, s, i) = test.1 (u, sym counted.chars_are ∙ c, sym counted.shorts_are ∙ s, sym counted.ints_are ∙ i)

-- nothing is used before the last line of a type
reached_good : (parts : Parts) → IsReached parts → IsGood parts
reached_good parts reached = good_all no_parts reached.rows parts good_start reached.good reached.accepted

reached_phased : (parts : Parts) → IsReached parts → IsPhased parts
reached_phased parts reached = phase_all no_parts reached.rows parts (inl refl) reached.accepted

none_used : (parts : Parts) (t : CType) → IsReached parts → Fits parts (Typedef t) → (u : CType) → Contains (all_used parts) u → ⊥
none_used parts t reached fits u h =
    let good = reached_good parts reached in
    let none : parts.structs ≡ [] = none_left parts.structs parts.named good.few fits.1 in
    let empty : all_used parts ≡ [] = λ i. used_types (none i) (fits.2 i) ++ stage_types (fits.0 i) in
    Contains-none u (subst (λ ts. Contains ts u) empty h)

-- what is left after a line
left_row : (left new : List CType) (old : Parts) (row : Row) (now : Parts) → now ≡ with_row old row → (with_row old row).typedefs ≡ old.typedefs → IsRow row → Fits old row → AreLeft left old → Drops left (row_types row) new → AreLeft new now
left_row left new old row now is same good fits leaves drops =
    subst (AreLeft new) (sym is) (left_more left new (row_types row) old (with_row old row) same leaves drops (used_row old row (good_gives row good) fits))

pub sound_more : (old : Draft) (row : Row) (new : Draft) → IsReached (parts_of old) → IsRow row → Fits (parts_of old) row → IsSound old → HasMore old row new → IsSound new
sound_more old (Typedef t) new reached good fits sound more =
    left_typedef old.left new.left t (parts_of old) (parts_of new) good (none_used (parts_of old) t reached fits) (ap all_used more.0) (ap (λ (p : Parts). p.typedefs) more.0) sound more.1
sound_more old (Named n) new reached good fits sound more = left_row old.left new.left (parts_of old) (Named n) (parts_of new) more.0 refl good fits sound more.1
sound_more old (Opened n) new reached good fits sound more = left_row old.left new.left (parts_of old) (Opened n) (parts_of new) more.0 refl good fits sound more.1
sound_more old (Gap k n) new reached good fits sound more = left_row old.left new.left (parts_of old) (Gap k n) (parts_of new) more.0 refl good fits sound more.1
sound_more old (Member field) new reached good fits sound more = left_row old.left new.left (parts_of old) (Member field) (parts_of new) more.0 refl good fits sound more.1
sound_more old Closed new reached good fits sound more = left_row old.left new.left (parts_of old) Closed (parts_of new) more.0 refl good fits sound more.1
sound_more old (Pair n) new reached good fits sound more = left_row old.left new.left (parts_of old) (Pair n) (parts_of new) more.0 refl good fits sound more.1
sound_more old (Half r t) new reached good fits sound more = left_row old.left new.left (parts_of old) (Half r t) (parts_of new) more.0 refl good fits sound more.1
sound_more old (Stated returns n args) new reached good fits sound more = left_row old.left new.left (parts_of old) (Stated returns n args) (parts_of new) more.0 refl good fits sound more.1

-- lines can end what was read where there is room for what is left
pub can_tells : (parts : Parts) (left : List CType) (counts : Counts) (r : Bool) → IsReached parts → length parts.typedefs ≤ 2 ^ 30 → AreLeft left parts → AreCounted left counts → IsTrue r ↔ HasRoom parts counts → IsTrue r ↔ CanEnd parts
can_tells parts left counts r reached small leaves counted test =
    let good = reached_good parts reached in
    let phase = reached_phased parts reached in (
      λ t. room_ends parts left counts good phase leaves counted small (test.0 t),
      λ can. test.1 (needs_room parts left counts good phase leaves counted can),
    )

pub few_tells : (parts : Parts) (left : List CType) (counts : Counts) → IsReached parts → length parts.typedefs ≤ 2 ^ 30 → AreLeft left parts → AreCounted left counts → IsFew counts
few_tells parts left counts reached small leaves counted = few_counts parts left counts (reached_good parts reached) (reached_phased parts reached) leaves counted small

pub structs_few : (parts : Parts) → IsReached parts → length parts.structs ≤ 2 ^ 32
structs_few parts reached =
    let good = reached_good parts reached in
    let few = good.few in
    let small = good.small in
    omega (arith, few, small)
