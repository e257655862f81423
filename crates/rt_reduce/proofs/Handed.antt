-- Lines that stay, since they stood among lines of which none follows from the others.
use Rattle.std.proofs.Common.{◌≡◌, ◌≢◌, ℕ, zero, suc, ◌⊎◌, inl, inr, List, [], ◌∷◌, ◌++◌, All, AllPairs, Bool, true, false, not, Contains, Option, Some}
use Rattle.std.proofs.Common.{length, filter, ◌≤◌, get_or, map, take, sym, ap, subst, ◌∙◌, true≢false}
use Rattle.std.specs.List.{list_any}
use Rattle.std.specs.Prelude.{slice_get}
use Rattle.std.specs.Cmp.Lexicographic.{pointwise}
use Rattle.std.proofs.lemmas.Bool.{cases_Bool, cases_order}
use Rattle.std.proofs.lemmas.List.{take_all}
use Rattle.std.proofs.lemmas.List.Elements.{All-contains}
use Rattle.std.proofs.lemmas.Map.Views.{Contains-from_any}
use Rattle.std.proofs.lemmas.Option.{get_or_from_slice_get, slice_get_within}
use Rattle.std.proofs.lemmas.Slice.Eq.{slice_eq-Decides}
use Rattle.rt_base.proofs.Lists.{All-from_contains, Contains-middle_cases, Contains-cons_cases, Contains-none, filter-has, filter-source, list_any-from}
use Rattle.rt_lines.specs.declared.line.Line.{Line}
use Rattle.rt_lines.specs.Equality.{line_eq}
use Rattle.rt_lines.specs.Numbering.{deduplicated}
use Rattle.rt_lines.specs.Orders.{Below}
use Rattle.rt_lines.proofs.Deduplicating.{deduplicated-has, deduplicated-source, deduplicated-distinct}
use Rattle.rt_lines.proofs.Equal.{line_equal}
use Rattle.rt_lines.proofs.Same.{line_self}
use Rattle.rt_rules.specs.Rules.{Derivable}
use Rattle.rt_rules.proofs.Carry.{given}
use Rattle.rt_rules.proofs.Covering.{derives_more}
use Rattle.rt_outline.specs.Lines.{standing}
use Rattle.rt_outline.proofs.Standing.{Stands, standing_line}
use Rattle.rt_reduce.specs.Inside.Dropping.{AreStaying, IsStaying}
use Rattle.rt_reduce.specs.Inside.Handing.{AreNeeded}
use Rattle.rt_reduce.proofs.Leftover.{lines_decide}

-- a member splits a list
split : (xs : List Line) (x : Line) → Contains xs x → (before : List Line) × (after : List Line) × (xs ≡ before ++ x ∷ after)
split [] x c = absurd (Contains-none x c)
split (y ∷ xs) x c = elim (Contains-cons_cases y xs x c) [
  | inl e ↦ ([], xs, ap (λ (z : Line). z ∷ xs) e)
  | inr d ↦ (let r = split xs x d in (y ∷ r.0, r.1, ap (λ (ys : List Line). y ∷ ys) r.2))
]

-- it is another one of the lines
abbrev pub IsOther : List Line → Line → Line → Type 0
IsOther lines l m = Contains lines m × (m ≡ l → ⊥)

-- lines of which each is another one or follows from others don't derive one that is needed
pub needed_stays : (order : Below) (known : List Line) (l : Line) → AreNeeded order known → Contains known l → (gone left : List Line) →
    ((g : Line) → Contains gone g → IsOther known l g) →
    ((m : Line) → Contains left m → IsOther known l m ⊎ Derivable order gone m) → Derivable order left l → ⊥
needed_stays order known l needed has gone left others each d =
    let parts = split known l has in
    by parts.0 parts.1 parts.2
  where
    by : (before after : List Line) → known ≡ before ++ l ∷ after → ⊥
    by before after e = needed before after l e (derives_more order left (before ++ after) from d)
      where
        other : (m : Line) → IsOther known l m → Contains (before ++ after) m
        other m h = elim (Contains-middle_cases before l after m (subst (λ (ls : List Line). Contains ls m) e h.0)) [
          | inl f ↦ absurd (h.1 (sym f))
          | inr c ↦ c
        ]

        from_gone : (g : Line) → Contains gone g → Derivable order (before ++ after) g
        from_gone g c = given order (before ++ after) g (other g (others g c))

        from : (m : Line) → Contains left m → Derivable order (before ++ after) m
        from m c = elim (each m c) [
          | inl h ↦ given order (before ++ after) m (other m h)
          | inr f ↦ derives_more order gone (before ++ after) from_gone f
        ]

-- a line that is read is there
read_there : (lines : List Line) (i : ℕ) (l : Line) → slice_get lines i ≡ Some l → Contains lines l
read_there lines i l at = (i, slice_get_within lines i l at, get_or_from_slice_get lines i l l at)

-- of lines that stand once those at other places are others
pub others_apart : (lines : List Line) → deduplicated lines ≡ lines → (i j : ℕ) (l m : Line) → slice_get lines i ≡ Some l →
    slice_get lines j ≡ Some m → (j ≡ i → ⊥) → m ≡ l → ⊥
others_apart lines once i j l m here there other e = elim (cases_order j i) [
  | inl f ↦ other f
  | inr h ↦ elim h [
    | inl less ↦ distinct j i l less (slice_get_within lines i l here) (second ∙ e ∙ sym first)
    | inr more ↦ distinct i j l more (slice_get_within lines j m there) (first ∙ sym e ∙ sym second)
  ]
]
  where
    distinct : AllPairs (λ a b. a ≢ b) lines
    distinct = subst (AllPairs (λ a b. a ≢ b)) once (deduplicated-distinct lines)

    first : get_or lines i l ≡ l
    first = get_or_from_slice_get lines i l l here

    second : get_or lines j l ≡ m
    second = get_or_from_slice_get lines j m l there

-- what is known of lines that went and of lines that came
pub record AreChanged (order : Below) (lines before here known gone come : List Line) : Type 0 where
  pub here_are : here ≡ deduplicated lines
  pub known_are : known ≡ deduplicated before
  pub once : deduplicated lines ≡ lines
  pub stood : (g : Line) → Contains gone g → Contains before g × (Contains here g → ⊥)
  pub all : (m : Line) → Contains lines m → Contains come m ⊎ Contains known m
  pub derived : (m : Line) → Contains come m → Derivable order gone m

module _ (order : Below) (lines before here known gone come : List Line) (needed : AreNeeded order before)
    (are : AreChanged order lines before here known gone come) where
  known_before : (m : Line) → Contains known m → Contains before m
  known_before m c = deduplicated-source before m (subst (λ (ls : List Line). Contains ls m) are.known_are c)

  stays_one : (i : ℕ) (l : Line) → slice_get lines i ≡ Some l → Contains known l → IsStaying order lines i
  stays_one i k at c l same stands clear d =
      needed_stays order before l needed (known_before l (subst (Contains known) is c)) gone (standing lines stands) gone_other each d
    where
      is : k ≡ l
      is = sym (get_or_from_slice_get lines i k l at) ∙ get_or_from_slice_get lines i l l same

      gone_other : (g : Line) → Contains gone g → IsOther before l g
      gone_other g h =
          let s = are.stood g h in (
            s.0,
            λ e. s.1 (subst (Contains here) (sym e)
                (subst (λ (ls : List Line). Contains ls l) (sym are.here_are) (deduplicated-has lines l (read_there lines i l same)))),
          )

      each : (m : Line) → Contains (standing lines stands) m → IsOther before l m ⊎ Derivable order gone m
      each m h =
          let r : (j : ℕ) × Stands lines stands j m = standing_line lines stands m h in
          let other : r.0 ≡ i → ⊥ = λ e. true≢false (sym r.1.1 ∙ ap (λ (n : ℕ). get_or stands n false) e ∙ clear) in
          by (others_apart lines are.once i r.0 l m same r.1.0 other) (are.all m (read_there lines r.0 m r.1.0))
        where
          by : (m ≡ l → ⊥) → Contains come m ⊎ Contains known m → IsOther before l m ⊎ Derivable order gone m
          by apart (inl a) = inr (are.derived m a)
          by apart (inr b) = inl (known_before m b, apart)

  -- the lines that were known stay
  pub known_stay : (stays : List Bool) →
      ((i : ℕ) (l : Line) → slice_get lines i ≡ Some l → get_or stays i false ≡ true → Contains known l) → AreStaying order lines stays
  known_stay stays flagged = λ i set l same. stays_one i l same (flagged i l same set) l same

-- what holds of all lines holds of some of them
pub some_all : (P : Line → Type 0) (lines some : List Line) → ((m : Line) → Contains some m → Contains lines m) → All P lines → All P some
some_all P lines some from all = All-from_contains P some (λ m c. All-contains P lines m all (from m c))

-- whether the line is among those of a set
abbrev pub is_known : List Line → Line → Bool
is_known keys l = list_any (line_eq l) keys

known_there : (keys : List Line) (l : Line) → is_known keys l ≡ true → Contains keys l
known_there keys l e = Contains-from_any line_equal l keys e

there_known : (keys : List Line) (l : Line) → Contains keys l → is_known keys l ≡ true
there_known keys l c = list_any-from (line_eq l) keys l c (line_self l)

flag_read : (keys lines : List Line) (i : ℕ) (l : Line) → slice_get lines i ≡ Some l →
    get_or (map (is_known keys) lines) i false ≡ true → is_known keys l ≡ true
flag_read keys [] i l at e = cc
flag_read keys (k ∷ lines) zero l at e = subst (λ (m : Line). is_known keys m ≡ true) (the at) e
  where
    the : ◌≡◌ {A = Option Line} (Some k) (Some l) → k ≡ l
    the f = cc
flag_read keys (k ∷ lines) (suc i) l at e = flag_read keys lines i l at e

module _ (keys lines : List Line) (n : ℕ) (flags : List Bool) (within : length lines ≤ n)
    (are : flags ≡ map (is_known keys) (take n lines)) where
  whole : flags ≡ map (is_known keys) lines
  whole = are ∙ ap (map (is_known keys)) (take_all n lines within)

  pub flags_known : (i : ℕ) (l : Line) → slice_get lines i ≡ Some l → get_or flags i false ≡ true → Contains keys l
  flags_known i l at e = known_there keys l (flag_read keys lines i l at (ap (λ (fs : List Bool). get_or fs i false) (sym whole) ∙ e))

-- the lines that aren't in a set
abbrev pub is_new : List Line → Line → Bool
is_new keys l = not (is_known keys l)

module _ (keys lines : List Line) (n : ℕ) (others : List Line) (within : length lines ≤ n)
    (are : others ≡ filter (is_new keys) (take n lines)) where
  filtered : others ≡ filter (is_new keys) lines
  filtered = are ∙ ap (filter (is_new keys)) (take_all n lines within)

  pub new_stood : (l : Line) → Contains others l → Contains lines l × (Contains keys l → ⊥)
  new_stood l c =
      let s = filter-source (is_new keys) lines l (subst (λ (ls : List Line). Contains ls l) filtered c) in
      (s.0, λ k. true≢false (sym s.1 ∙ ap not (there_known keys l k)))

  pub new_all : (l : Line) → Contains lines l → Contains others l ⊎ Contains keys l
  new_all l c = elim (cases_Bool (is_known keys l)) [
    | inl e ↦ inr (known_there keys l e)
    | inr e ↦ inl (subst (λ (ls : List Line). Contains ls l) (sym filtered) (filter-has (is_new keys) lines l c (ap not e)))
  ]

-- lines that are equal
pub once_same : (lines once : List Line) (same : Bool) → same ≡ pointwise line_eq once lines → once ≡ deduplicated lines → same ≡ true →
    deduplicated lines ≡ lines
once_same lines once same e is equal = sym is ∙ (slice_eq-Decides lines_decide once lines same e).0 equal
