-- Whether something is left for another round.
use Rattle.std.proofs.Common.{◌≡◌, ℕ, ◌+◌, ◌<◌, ◌⊎◌, inl, inr, List, length, take, get_or, Contains, Bool, true, false, not, MatchBool}
use Rattle.std.proofs.Common.{refl, sym, subst}
use Rattle.std.specs.Bool.{Decides}
use Rattle.std.specs.Cmp.Lexicographic.{pointwise}
use Rattle.std.proofs.lemmas.Slice.Eq.{slice_eq-Decides}
use Rattle.rt_lines.specs.declared.label.Variance.TheVariants.{Co, Contra}
use Rattle.rt_lines.specs.declared.variable.Base.{Base}
use Rattle.rt_lines.specs.declared.variable.Base.TheVariants.{Proc, Global, Exist, Outer}
use Rattle.rt_lines.specs.declared.line.Line.{Line}
use Rattle.rt_lines.specs.Equality.{line_eq}
use Rattle.rt_lines.proofs.Equal.{line_equal}
use Rattle.rt_rules.specs.Laws.{NamesBase}
use Rattle.rt_twins.specs.Twinnings.{IsTwinning}
use Rattle.rt_twins.specs.Inside.Leading.{AreOfLines}
use Rattle.rt_polar.specs.Polar.{HasCandidate}
use Rattle.rt_polar.specs.Puts.{Puts}
use Rattle.rt_polar.specs.Puts.Puts.{none_left, puts}
use Rattle.rt_reduction.specs.Simplifies.{Simplifies, simple, twins_go}
use Rattle.rt_reduction.specs.Rounds.{IsUnfinished, of_candidate, of_twins, of_unused}
use Rattle.rt_reduction.proofs.Losing.{IsSimple, simple_loses}
use Rattle.rt_reduction.proofs.NamesFrom.{Loses}
use Rattle.rt_reduce.specs.Inside.Settling.{AreUsed, HasMissing, HaveMissing, IsMissing, IsSimplified, IsUnused, IsUsedBy}
use Rattle.rt_reduce.proofs.Firsts.{more_cases}
use Rattle.rt_lines.proofs.Same.{line_self}

-- putting changes nothing, or an existential has a candidate
puts_or : (left start : List Line) → Puts left start → (start ≡ left) ⊎ ((n : ℕ) × HasCandidate n start)
puts_or left start (none_left none) = inl refl
puts_or left start (puts n now between least exchanged rest) = inr (n, least.has)

-- simplifying changes nothing, or something is left
changed_left : (left start : List Line) → Simplifies left start → (start ≡ left) ⊎ IsUnfinished start
changed_left left start (simple _ p none none') = by (puts_or left start p)
  where
    by : (start ≡ left) ⊎ ((n : ℕ) × HasCandidate n start) → (start ≡ left) ⊎ IsUnfinished start
    by (inl e) = inl e
    by (inr (n, has)) = inr (of_candidate n has)
changed_left left start (twins_go _ between sign class w p turn c apart rest) = inr (by (puts_or between start p))
  where
    by : (start ≡ between) ⊎ ((n : ℕ) × HasCandidate n start) → IsUnfinished start
    by (inl f) = of_twins sign class w (subst (λ ls. IsTwinning sign ls class) (sym f) c.twins) apart
    by (inr (n, has)) = of_candidate n has

changed_unfinished : (left start : List Line) → Simplifies left start → (left ≡ start → ⊥) → IsUnfinished start
changed_unfinished left start s changed = by (changed_left left start s)
  where
    by : (start ≡ left) ⊎ IsUnfinished start → IsUnfinished start
    by (inl e) = absurd (changed (sym e))
    by (inr h) = h

same_simplified : (left start : List Line) → Simplifies left start → left ≡ start → IsSimplified start
same_simplified left start s e = by (simple_loses left start s)
  where
    by : ((start ≡ left) × IsSimple left) ⊎ Loses start left → IsSimplified start
    by (inl (f, is)) =
        let here : IsSimple start = subst IsSimple e is in
        record { no_candidate = here.no_candidate; no_twins = (here.no_twins Co, here.no_twins Contra) }
    by (inr (n, names, gone)) = absurd (gone (subst (λ ls. NamesBase ls (Exist n)) (sym e) names))

-- bases that are not found
missing_number : (found : ℕ → Bool) (b : Base) → IsMissing found b → (n : ℕ) × (b ≡ Exist n) × (found n ≡ false)
missing_number found (Exist n) h = (n, refl, h)
missing_number found (Proc n) h = absurd h
missing_number found (Global n) h = absurd h
missing_number found (Outer n) h = absurd h

found_or : (found : ℕ → Bool) (n : ℕ) (b : Base) → b ≡ Exist n → (IsMissing found b → ⊥) → found n ≡ true
found_or found n b e present = by (found n) refl
  where
    by : (t : Bool) → found n ≡ t → found n ≡ true
    by true f = f
    by false f = absurd (present (subst (IsMissing found) (sym e) f))

-- a list that uses each existential that it names, and one that doesn't
none_missing : (lines : List Line) (found : ℕ → Bool) → AreOfLines IsUsedBy lines found → (HaveMissing found lines → ⊥) → AreUsed lines
none_missing lines found are none n (l, x, c, h, e) = (are n).0 (found_or found n x.base e (λ m. none (l, c, (x, h, m))))

some_missing : (lines : List Line) (found : ℕ → Bool) → AreOfLines IsUsedBy lines found → HaveMissing found lines
    → (n : ℕ) × IsUnused lines n
some_missing lines found are (l, c, (x, h, m)) =
    let (n, e, absent) = missing_number found x.base m in
    (n, ((l, x, c, h, e), λ k d u. let f : found n ≡ true = (are n).1 (k, d, u) in let g : found n ≡ false = absent in cc))

-- what is used, as it is computed
pub used_or : (missing : Bool) (lines : List Line) (found : ℕ → Bool) → AreOfLines IsUsedBy lines found
    → MatchBool missing (HaveMissing found lines) (HaveMissing found lines → ⊥)
    → MatchBool (not missing) (AreUsed lines) ((n : ℕ) × IsUnused lines n)
used_or true lines found are h = some_missing lines found are h
used_or false lines found are h = none_missing lines found are h

pub none_more : (found : ℕ → Bool) (lines : List Line) (i : ℕ) (l : Line) → i < length lines → l ≡ get_or lines i l
    → (HaveMissing found (take i lines) → ⊥) → (HasMissing found l → ⊥) → HaveMissing found (take (i + 1) lines) → ⊥
none_more found lines i l less is none out (k, c, h) = by (more_cases lines i l k less is c)
  where
    by : Contains (take i lines) k ⊎ (l ≡ k) → ⊥
    by (inl d) = none (k, d, h)
    by (inr e) = out (subst (HasMissing found) (sym e) h)

-- whether simplifying changes anything
pub lines_decide : (a b : Line) → Decides (line_eq a b) (a ≡ b)
lines_decide a b = (line_equal a b, λ e. subst (λ m. line_eq a m ≡ true) e (line_self a))

pub simplified_or : (same : Bool) (left lines : List Line) → same ≡ pointwise line_eq left lines → Simplifies left lines
    → MatchBool same (IsSimplified lines) (IsUnfinished lines)
simplified_or same left lines e s = by same (slice_eq-Decides lines_decide left lines same e)
  where
    by : (t : Bool) → Decides t (left ≡ lines) → MatchBool t (IsSimplified lines) (IsUnfinished lines)
    by true d = same_simplified left lines s (d.0 refl)
    by false d = changed_unfinished left lines s (λ f. let g : false ≡ true = d.1 f in cc)

-- both
pub settled_or : (simple used : Bool) (lines : List Line) → used ≡ true → MatchBool used (AreUsed lines) ((n : ℕ) × IsUnused lines n)
    → MatchBool simple (IsSimplified lines) (IsUnfinished lines)
    → MatchBool simple (IsSimplified lines × AreUsed lines) (IsUnfinished lines)
settled_or true used lines e u s = (s, subst (λ t. MatchBool t (AreUsed lines) ((n : ℕ) × IsUnused lines n)) e u)
settled_or false used lines e u s = s

pub unused_or : (used : Bool) (lines : List Line) → used ≡ false → MatchBool used (AreUsed lines) ((n : ℕ) × IsUnused lines n)
    → IsUnfinished lines
unused_or used lines e u = by (subst (λ t. MatchBool t (AreUsed lines) ((n : ℕ) × IsUnused lines n)) e u)
  where
    by : (n : ℕ) × IsUnused lines n → IsUnfinished lines
    by (n, (names, unused)) = of_unused n names unused
