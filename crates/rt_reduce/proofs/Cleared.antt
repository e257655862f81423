-- Lines of which one is left out.
use Rattle.std.proofs.Common.{◌≡◌, ◌≢◌, ◌⊎◌, ℕ, zero, suc, ◌<◌, inl, inr, List, [], ◌∷◌, ◌++◌, All, Contains, Bool, true, false, Some, length, get_or, set, replicate}
use Rattle.std.proofs.Common.{refl, sym, ap, subst, ◌∙◌, arith}
use Rattle.std.specs.Prelude.{slice_get}
use Rattle.std.proofs.lemmas.List.{get_or-replicate, get_or-set_other, set-get_or, set-set}
use Rattle.std.proofs.lemmas.Option.{slice_get_within}
use Rattle.rt_base.proofs.Lists.{All-at, All-from_contains, Contains-here, Contains-there}
use Rattle.rt_lines.specs.declared.line.Line.{Line}
use Rattle.rt_lines.specs.Lines.{HasConstantsBelow}
use Rattle.rt_lines.specs.Orders.{Below}
use Rattle.rt_rules.specs.Rules.{Derivable}
use Rattle.rt_rules.proofs.Carry.{given}
use Rattle.rt_rules.proofs.Covering.{derives_more}
use Rattle.rt_outline.specs.Lines.{standing}
use Rattle.rt_outline.proofs.Standing.{Stands, standing_line}
use Rattle.rt_reduce.specs.Inside.Dropping.{AreStaying, IsStaying}

standing_has : (lines : List Line) (flags : List Bool) (i : ℕ) (l : Line) → slice_get lines i ≡ Some l → get_or flags i false ≡ true →
    Contains (standing lines flags) l
standing_has [] flags i l at is = absurd (let h : i < 0 = slice_get_within [] i l at in omega arith)
standing_has (k ∷ lines) [] i l at is = absurd (let e : get_or [] i false ≡ true = is in cc)
standing_has (k ∷ lines) (true ∷ flags) zero l at is =
    let same : k ≡ l = cc in
    subst (Contains (k ∷ standing lines flags)) same (Contains-here k (standing lines flags))
standing_has (k ∷ lines) (false ∷ flags) zero l at is = absurd (cc)
standing_has (k ∷ lines) (true ∷ flags) (suc i) l at is = Contains-there k (standing lines flags) l (standing_has lines flags i l at is)
standing_has (k ∷ lines) (false ∷ flags) (suc i) l at is = standing_has lines flags i l at is

-- the other flags are set
pub set_at : (count i j : ℕ) (stands : List Bool) → stands ≡ set (replicate count true) i false → j ≢ i → j < count →
    get_or stands j false ≡ true
set_at count i j stands e ne h =
    ap (λ fs. get_or fs j false) e ∙ get_or-set_other (replicate count true) i j false false ne ∙ get_or-replicate count j true false h

-- all flags are set again
pub set_again : (count i : ℕ) (stands : List Bool) → stands ≡ set (replicate count true) i false → i < count →
    set stands i true ≡ replicate count true
set_again count i stands e h =
    ap (λ fs. set fs i true) e ∙ set-set (replicate count true) i false true
    ∙ ap (set (replicate count true) i) (sym (get_or-replicate count i true false h)) ∙ set-get_or (replicate count true) i false

-- what some of the other lines derive, they all derive
pub others_derive : (order : Below) (lines : List Line) (i : ℕ) (stands flags : List Bool) (l : Line) →
    stands ≡ set (replicate (length lines) true) i false → get_or flags i false ≡ false → Derivable order (standing lines flags) l →
    Derivable order (standing lines stands) l
others_derive order lines i stands flags l e cleared d =
    derives_more order (standing lines flags) (standing lines stands) (λ m c. given order (standing lines stands) m (by m c)) d
  where
    by : (m : Line) → Contains (standing lines flags) m → Contains (standing lines stands) m
    by m c =
        let r : (j : ℕ) × Stands lines flags j m = standing_line lines flags m c in
        let other : r.0 ≢ i = λ f. (let g : get_or flags r.0 false ≡ get_or flags i false = ap (λ n. get_or flags n false) f in
        let k : get_or flags r.0 false ≡ true = r.1.1 in cc) in
        standing_has lines stands r.0 m r.1.0 (set_at (length lines) i r.0 stands e other (slice_get_within lines r.0 m r.1.0))

-- a flag that is put behind others
pushed_cases : (flags : List Bool) (f : Bool) (j : ℕ) → get_or (flags ++ f ∷ []) j false ≡ true →
    (get_or flags j false ≡ true) ⊎ ((j ≡ length flags) × (f ≡ true))
pushed_cases [] f zero e = inr (refl, e)
pushed_cases [] f (suc j) e = absurd (cc)
pushed_cases (g ∷ flags) f zero e = inl e
pushed_cases (g ∷ flags) f (suc j) e = by (pushed_cases flags f j e)
  where
    by : (get_or flags j false ≡ true) ⊎ ((j ≡ length flags) × (f ≡ true)) →
        (get_or flags j false ≡ true) ⊎ ((suc j ≡ suc (length flags)) × (f ≡ true))
    by (inl g) = inl g
    by (inr (g, h)) = inr (ap suc g, h)

pub more_staying : (order : Below) (lines : List Line) (stays new : List Bool) (i : ℕ) (f : Bool) → new ≡ stays ++ f ∷ [] →
    length stays ≡ i → (f ≡ true → IsStaying order lines i) → AreStaying order lines stays → AreStaying order lines new
more_staying order lines stays new i f is long here are j e = by (pushed_cases stays f j (ap (λ fs. get_or fs j false) (sym is) ∙ e))
  where
    by : (get_or stays j false ≡ true) ⊎ ((j ≡ length stays) × (f ≡ true)) → IsStaying order lines j
    by (inl g) = are j g
    by (inr (g, h)) = subst (IsStaying order lines) (sym (g ∙ long)) (here h)

-- constants of lines that stand are those of all
pub few_standing : (count : ℕ) (lines : List Line) (flags : List Bool) → All (HasConstantsBelow count) lines →
    All (HasConstantsBelow count) (standing lines flags)
few_standing count lines flags few =
    All-from_contains (HasConstantsBelow count) (standing lines flags)
    (λ l c. let r : (i : ℕ) × Stands lines flags i l = standing_line lines flags l c in
    All-at (HasConstantsBelow count) lines r.0 l few r.1.0)
