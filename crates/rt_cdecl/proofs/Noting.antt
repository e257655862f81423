-- Types by their lines, and what comes of more of them.
use Rattle.std.proofs.Common.{◌≡◌, ℕ, ◌+◌, ◌<◌, ◌≤◌, List, [], ◌∷◌, ◌++◌, All, Contains, length, take, map, get_or, refl, sym, ap, subst, ◌∙◌, ◌⊎◌, inl, inr, append_assoc}
use Rattle.std.specs.BTreeMap.{BTreeMap, insert_entry, values}
use Rattle.std.specs.Cmp.Lexicographic.{slice_cmp}
use Rattle.std.specs.List.{flat_map}
use Rattle.std.specs.List.Sorted.{IsStrictlySortedBy}
use Rattle.std.specs.Map.{keys_of, values_of}
use Rattle.std.specs.Ordering.{nat_cmp, match_ordering}
use Rattle.std.specs.Prelude.{Vec}
use Rattle.std.specs.declared.cmp.Ordering.{Ordering}
use Rattle.std.specs.declared.cmp.Ordering.TheVariants.{Less, Equal, Greater}
use Rattle.std.proofs.lemmas.Grind.{flat_map-append}
use Rattle.std.proofs.lemmas.List.{append-nil, take_all, take_more}
use Rattle.std.proofs.lemmas.List.Elements.{All-head, All-tail, All-cons, All-nil, All-map, All-weaker, Contains-append_left, Contains-append_right, Contains-append_cases, Contains-push, Contains-push_cases}
use Rattle.std.proofs.lemmas.Map.Lookups.{exact_bytes}
use Rattle.rt_cdecl.specs.declared.declarations.CType.{CType}
use Rattle.rt_cdecl.specs.Types.{IsTypedef}
use Rattle.rt_cdecl.specs.Rows.{typedef_text}
use Rattle.rt_cdecl.specs.declared.declarations.CType.TheVariants.{Unused, Scalar, Pointer}
use Rattle.rt_cdecl.specs.GoodDecls.{AreAscending, named_types, result_types}
use Rattle.rt_cdecl.specs.Lines.{IsByLine, AreByLine, HaveSame, Gains}
use Rattle.rt_cdecl.proofs.OneRow.{one_typedef}

-- the same types in lists put together
into : (a b c d : List CType) (t : CType) → (Contains a t → Contains b t) → (Contains c t → Contains d t) → Contains (a ++ c) t → Contains (b ++ d) t
into a b c d t f g h = by (Contains-append_cases a c t h)
  where
    by : Contains a t ⊎ Contains c t → Contains (b ++ d) t
    by (inl x) = Contains-append_left b d t (f x)
    by (inr y) = Contains-append_right b d t (g y)

same_append : (a b c d : List CType) → HaveSame a b → HaveSame c d → HaveSame (a ++ c) (b ++ d)
same_append a b c d f g = λ t. (into a b c d t (f t).0 (g t).0, into b a d c t (f t).1 (g t).1)

same_self : (a : List CType) → HaveSame a a
same_self a = λ t. ((λ h. h), (λ h. h))

same_through : (a b c : List CType) → HaveSame a b → HaveSame b c → HaveSame a c
same_through a b c f g = λ t. ((λ h. (g t).0 ((f t).0 h)), (λ h. (f t).1 ((g t).1 h)))

turned : (a b : List CType) (t : CType) → Contains (a ++ b) t → Contains (b ++ a) t
turned a b t h = by (Contains-append_cases a b t h)
  where
    by : Contains a t ⊎ Contains b t → Contains (b ++ a) t
    by (inl x) = Contains-append_right b a t x
    by (inr y) = Contains-append_left b a t y

same_turned : (a b : List CType) → HaveSame (a ++ b) (b ++ a)
same_turned a b = λ t. (turned a b t, turned b a t)

-- one that is there comes once more
once_more : (a : List CType) (x : CType) → Contains a x → HaveSame a (a ++ x ∷ [])
once_more a x there = λ t. (Contains-append_left a (x ∷ []) t, λ h. by t (Contains-push_cases a x t h))
  where
    by : (t : CType) → Contains a t ⊎ (x ≡ t) → Contains a t
    by t (inl h) = h
    by t (inr e) = subst (λ u. Contains a u) e there

all_left : (xs ys : List CType) → All IsTypedef (xs ++ ys) → All IsTypedef xs
all_left [] ys h = All-nil IsTypedef
all_left (x ∷ xs) ys h = All-cons IsTypedef x xs (All-head IsTypedef x (xs ++ ys) h) (all_left xs ys (All-tail IsTypedef x (xs ++ ys) h))

all_right : (xs ys : List CType) → All IsTypedef (xs ++ ys) → All IsTypedef ys
all_right [] ys h = h
all_right (x ∷ xs) ys h = all_right xs ys (All-tail IsTypedef x (xs ++ ys) h)

-- the types of all
pub record AreListed (types used : List CType) : Type 0 where
  pub each : All IsTypedef types
  pub rise : AreAscending (map typedef_text types)
  pub exact : HaveSame types used

abbrev Entries : Type 0 → Type 0
Entries Y = List (Vec ℕ Y × CType)

abbrev Map : Type 0 → Type 0
Map Y = BTreeMap (Vec ℕ Y) CType

module _ {Y : Type 0} where
  abbrev cmp : Vec ℕ Y → Vec ℕ Y → Ordering
  cmp x y = slice_cmp nat_cmp x.items y.items

  -- types by their lines, with one more
  abbrev Inserted : Entries Y → Entries Y → CType → Type 0
  Inserted es now v = All IsByLine now × HaveSame (values_of now) (values_of es ++ v ∷ [])

  inserted_at : (e : Vec ℕ Y × CType) (es : Entries Y) (k : Vec ℕ Y) (v : CType) → All IsByLine (e ∷ es) → IsByLine (k, v) →
      Inserted es (insert_entry cmp es k v) v → (o : Ordering) → cmp k e.0 ≡ o →
      Inserted (e ∷ es) (match_ordering o ((k, v) ∷ e ∷ es) ((e.0, v) ∷ es) (e ∷ insert_entry cmp es k v)) v
  inserted_at e es k v are is more Less order =
      (All-cons IsByLine (k, v) (e ∷ es) is are, same_turned (v ∷ []) (e.1 ∷ values_of es))
  inserted_at e es k v are is more Equal order =
      let here : IsByLine e = All-head IsByLine e es are in
      let keys : k.items ≡ e.0.items = exact_bytes k.items e.0.items order in
      let line : e.0.items ≡ typedef_text v = sym keys ∙ is.line in
      let one : e.1 ≡ v = one_typedef e.1 v here.typedef is.typedef (sym here.line ∙ line) in (
        All-cons IsByLine (e.0, v) es (record { typedef = is.typedef; line = line }) (All-tail IsByLine e es are),
        subst (λ u. HaveSame (v ∷ values_of es) (u ∷ values_of es ++ v ∷ [])) (sym one)
            (once_more (v ∷ values_of es) v (Contains-append_left (v ∷ []) (values_of es) v (Contains-push [] v))),
      )
  inserted_at e es k v are is more Greater order = (
    All-cons IsByLine e (insert_entry cmp es k v) (All-head IsByLine e es are) more.0,
    same_append (e.1 ∷ []) (e.1 ∷ []) (values_of (insert_entry cmp es k v)) (values_of es ++ v ∷ []) (same_self (e.1 ∷ [])) more.1,
  )

  inserted : (es : Entries Y) (k : Vec ℕ Y) (v : CType) → All IsByLine es → IsByLine (k, v) → Inserted es (insert_entry cmp es k v) v
  inserted [] k v are is = (All-cons IsByLine (k, v) [] is (All-nil IsByLine), same_self (v ∷ []))
  inserted (e ∷ es) k v are is = inserted_at e es k v are is (inserted es k v (All-tail IsByLine e es are) is) (cmp k e.0) refl

  -- one more
  pub gains_one : (old new : Map Y) (line : Vec ℕ Y) (kind copy : CType) → copy ≡ kind → line.items ≡ typedef_text kind →
      new.entries ≡ insert_entry cmp old.entries line copy → Gains old new (kind ∷ [])
  gains_one old new line kind copy same text now =
      record {
        gain = λ are good. subst (λ (es : Entries Y). Inserted old.entries es kind) (sym now)
            (subst (λ (u : CType). Inserted old.entries (insert_entry cmp old.entries line u) kind) (sym same)
            (inserted old.entries line kind are (record { typedef = All-head IsTypedef kind [] good; line = text })));
      }

  -- none more
  pub gains_none : (old : Map Y) → Gains old old []
  gains_none old = record { gain = λ are good. (are, subst (λ l. HaveSame (values old) l) (sym (append-nil (values old))) (same_self (values old))) }

  -- some, and then others
  pub gains_both : (a b c : Map Y) (xs ys : List CType) → Gains a b xs → Gains b c ys → Gains a c (xs ++ ys)
  gains_both a b c xs ys f g = record {
    gain = λ are good.
        let first = f.gain are (all_left xs ys good) in
        let second = g.gain first.0 (all_right xs ys good) in (
          second.0,
          subst (λ l. HaveSame (values c) l) (append_assoc (values a) xs ys)
              (same_through (values c) (values b ++ ys) ((values a ++ xs) ++ ys) second.1
              (same_append (values b) (values a ++ xs) ys ys first.1 (same_self ys))),
        );
  }

  -- those of one more of a list
  pub gains_more : {X : Type 0} (f : X → List CType) (xs : List X) (i : ℕ) (x : X) (a b c : Map Y) → i < length xs → x ≡ get_or xs i x →
      Gains a b (flat_map f (take i xs)) → Gains b c (f x) → Gains a c (flat_map f (take (i + 1) xs))
  gains_more f xs i x a b c less is g h =
      let whole : flat_map f (take (i + 1) xs) ≡ flat_map f (take i xs) ++ f x =
      ap (flat_map f) (take_more xs i x less ∙ ap (λ y. take i xs ++ y ∷ []) (sym is)) ∙
      (flat_map-append f (take i xs) (x ∷ []) ∙ ap (λ l. flat_map f (take i xs) ++ l) (append-nil (f x))) in
      subst (Gains a c) (sym whole) (gains_both a b c (flat_map f (take i xs)) (f x) g h)

  -- those of the whole list
  pub gains_all : {X : Type 0} (f : X → List CType) (xs : List X) (i : ℕ) (a b : Map Y) → length xs ≤ i → Gains a b (flat_map f (take i xs)) → Gains a b (flat_map f xs)
  gains_all f xs i a b past g = subst (λ l. Gains a b (flat_map f l)) (take_all i xs past) g

  -- the lines rise
  ascending : (es : Entries Y) → IsStrictlySortedBy cmp (keys_of es) → All IsByLine es → AreAscending (map typedef_text (values_of es))
  unfolding IsStrictlySortedBy
  ascending [] s are = tt
  ascending (e ∷ []) s are = tt
  ascending (e ∷ f ∷ es) s are =
      let rest = All-tail IsByLine e (f ∷ es) are in (
        subst (λ l. slice_cmp nat_cmp (typedef_text e.1) l ≡ Less) (All-head IsByLine f es rest).line
            (subst (λ l. slice_cmp nat_cmp l f.0.items ≡ Less) (All-head IsByLine e (f ∷ es) are).line s.0.0),
        ascending (f ∷ es) s.1 rest,
      )

  pub all_listed : (old new : Map Y) (types used : List CType) → Gains old new used → old.entries ≡ [] → All IsTypedef used →
      IsStrictlySortedBy cmp (keys_of new.entries) → types ≡ values new → AreListed types used
  all_listed old new types used gains none good sorted are =
      let before : AreByLine old = subst (λ (es : Entries Y). All IsByLine es) (sym none) (All-nil IsByLine) in
      let now = gains.gain before good in
      let all : AreListed (values new) used = record {
        each = All-map IsTypedef (λ (e : Vec ℕ Y × CType). e.1) new.entries (All-weaker IsByLine (λ e. IsTypedef e.1) (λ e is. is.typedef) new.entries now.0);
        rise = ascending new.entries sorted now.0;
        exact = subst (λ (es : Entries Y). HaveSame (values new) (values_of es ++ used)) none now.1;
      } in
      subst (λ l. AreListed l used) (sym are) all

-- what a type adds to those that have lines, by its kind
pub named_as : (kind other : CType) (more : List CType) → kind ≡ other → named_types other ≡ more → named_types kind ≡ more
named_as kind other more e h = subst (λ k. named_types k ≡ more) (sym e) h

pub alone_as : (kind other : CType) (more : List CType) → kind ≡ other → result_types other Unused ≡ more → result_types kind Unused ≡ more
alone_as kind other more e h = subst (λ k. result_types k Unused ≡ more) (sym e) h

-- results beside one in a1
pub beside : (out0 out1 : CType) → (out1 ≡ Unused → ⊥) → result_types out0 out1 ≡ named_types out0 ++ named_types out1
beside out0 Unused is = absurd (is refl)
beside out0 (Scalar name bits) is = refl
beside out0 (Pointer n) is = sym (append-nil (named_types out0))
