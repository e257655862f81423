-- What is left of lines.
use Rattle.std.proofs.Common.{◌≡◌, ◌≢◌, ℕ, ◌+◌, ◌<◌, ◌⊎◌, inl, inr, Bool, true, false, cond, ◌||◌, MatchBool, List, [], ◌∷◌, ◌++◌, length, take, get_or, Contains, refl, sym, ap, subst, arith}
use Rattle.std.proofs.lemmas.List.Elements.{Contains-push_cases, Contains-append_left, Contains-append_right}
use Rattle.rt_base.proofs.Lists.{Contains-here, take-next}
use Rattle.rt_lines.specs.declared.line.Line.{Line}
use Rattle.rt_lines.specs.declared.line.Line.TheVariants.{Var, Same, Sub, Low, Up}
use Rattle.rt_trim.specs.Idle.{is_idle, trimmed_line, trimmed}
use Rattle.rt_lines.specs.FlowCounts.{line_flow_count, flow_count}
use Rattle.rt_trim.specs.Trimming.{AreNoted, AreOfLines}

module _ (idle : ℕ → Bool) where
  -- a line that changes is no `<=` line or bound any more
  fewer_line : (l : Line) → (trimmed_line idle l ≡ l) ⊎ (line_flow_count (trimmed_line idle l) < line_flow_count l)
  fewer_line (Var x) = inl refl
  fewer_line (Same x y) = inl refl
  fewer_line (Sub x y) = by (is_idle idle x.base || is_idle idle y.base)
    where
      by : (b : Bool) → (cond b (Same x y) (Sub x y) ≡ Sub x y) ⊎ (line_flow_count (cond b (Same x y) (Sub x y)) < 1)
      by true = inr (omega arith)
      by false = inl refl
  fewer_line (Low k x) = by (is_idle idle x.base)
    where
      by : (b : Bool) → (cond b (Var x) (Low k x) ≡ Low k x) ⊎ (line_flow_count (cond b (Var x) (Low k x)) < 1)
      by true = inr (omega arith)
      by false = inl refl
  fewer_line (Up x k) = by (is_idle idle x.base)
    where
      by : (b : Bool) → (cond b (Var x) (Up x k) ≡ Up x k) ⊎ (line_flow_count (cond b (Var x) (Up x k)) < 1)
      by true = inr (omega arith)
      by false = inl refl

  same_count : (l : Line) → trimmed_line idle l ≡ l → line_flow_count (trimmed_line idle l) ≡ line_flow_count l
  same_count l e = ap line_flow_count e

  fewer : (ls : List Line) → (trimmed idle ls ≡ ls) ⊎ (flow_count (trimmed idle ls) < flow_count ls)
  fewer [] = inl refl
  fewer (l ∷ ls) = by (fewer_line l) (fewer ls)
    where
      by : (trimmed_line idle l ≡ l) ⊎ (line_flow_count (trimmed_line idle l) < line_flow_count l) →
          (trimmed idle ls ≡ ls) ⊎ (flow_count (trimmed idle ls) < flow_count ls) →
          (trimmed idle (l ∷ ls) ≡ l ∷ ls) ⊎ (flow_count (trimmed idle (l ∷ ls)) < flow_count (l ∷ ls))
      by (inl e) (inl f) = inl (rw (e, f) refl)
      by (inl e) (inr less) = inr (let f = same_count l e in omega (arith, f, less))
      by (inr less) (inl f) = inr (let g : flow_count (trimmed idle ls) ≡ flow_count ls = ap flow_count f in omega (arith, g, less))
      by (inr less) (inr few) = inr (omega (arith, less, few))

  smaller : (ls : List Line) → trimmed idle ls ≢ ls → flow_count (trimmed idle ls) < flow_count ls
  smaller ls apart = elim (fewer ls) [ inl e ↦ absurd (apart e) | inr less ↦ less ]

  pub smaller_left : (has : Bool) (lines left : List Line) → has ≡ true →
      MatchBool has (trimmed idle lines ≢ lines) (trimmed idle lines ≡ lines) → left ≡ trimmed idle lines → flow_count left < flow_count lines
  smaller_left true lines left e apart is = subst (λ (ls : List Line). flow_count ls < flow_count lines) (sym is) (smaller lines apart)
  smaller_left false lines left e same is = absurd (cc)

-- one line more of those that spoil
pub of_lines_more : (P : ℕ → Line → Type 0) (lines : List Line) (i : ℕ) (l : Line) (old new : ℕ → Bool) → i < length lines →
    l ≡ get_or lines i l → AreOfLines P (take i lines) old → AreNoted (λ n. P n l) old new → AreOfLines P (take (i + 1) lines) new
of_lines_more P lines i l old new less is are noted n = (forth, back)
  where
    Any : List Line → Type 0
    Any ls = (m : Line) × Contains ls m × P n m

    more : take (i + 1) lines ≡ take i lines ++ l ∷ []
    more = take-next lines i l less is

    wider : (m : Line) → Contains (take i lines ++ l ∷ []) m → Contains (take (i + 1) lines) m
    wider m c = subst (λ (ls : List Line). Contains ls m) (sym more) c

    forth : new n ≡ true → Any (take (i + 1) lines)
    forth h = by (noted.source n h)
      where
        by : (old n ≡ true) ⊎ P n l → Any (take (i + 1) lines)
        by (inl g) =
            let s : Any (take i lines) = (are n).0 g in
            (s.0, wider s.0 (Contains-append_left (take i lines) (l ∷ []) s.0 s.1), s.2)
        by (inr p) = (l, wider l (Contains-append_right (take i lines) (l ∷ []) l (Contains-here l [])), p)

    back : Any (take (i + 1) lines) → new n ≡ true
    back (m, c, p) = by (Contains-push_cases (take i lines) l m (subst (λ (ls : List Line). Contains ls m) more c))
      where
        by : Contains (take i lines) m ⊎ (l ≡ m) → new n ≡ true
        by (inl d) = noted.kept n ((are n).1 (m, d, p))
        by (inr e) = noted.added n (subst (P n) (sym e) p)
