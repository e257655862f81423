-- Rows of the variables that sides of lines begin with.
use Rattle.std.proofs.Common.{◌≡◌, ℕ, zero, suc, ◌<◌, ◌⊎◌, inl, inr, List, [], ◌∷◌, Bool, true, false, Some, Contains, length, get_or, replicate, refl, sym, ap, subst, ◌∙◌}
use Rattle.std.specs.Prelude.{slice_get, slice_index_or}
use Rattle.std.proofs.lemmas.Option.{slice_get-get_or}
use Rattle.rt_base.proofs.Lists.{Contains-none}
use Rattle.rt_base.proofs.Options.{one_some}
use Rattle.rt_lines.specs.declared.label.Label.{Label}
use Rattle.rt_lines.specs.declared.variable.Dtv.{Dtv}
use Rattle.rt_lines.specs.declared.line.Line.{Line}
use Rattle.rt_rules.specs.Rules.{longer, extended}
use Rattle.rt_rules.proofs.Covering.{extended-cons}
use Rattle.rt_named.specs.Origins.{no_variable}
use Rattle.rt_shape.specs.Shapes.{IsFront, IsNamed}
use Rattle.rt_witness.specs.Witnesses.{AreNaming, HasFront, HasMore, HasNaming, IsAt, IsLeft}

empty_at : (count n : ℕ) → get_or {A = List ℕ} (replicate count []) n [] ≡ []
empty_at zero n = refl
empty_at (suc count) zero = refl
empty_at (suc count) (suc n) = empty_at count n

pub AreNaming-none : (named : List Dtv) (lines : List Line) (rows : List (List ℕ)) (count : ℕ) → rows ≡ replicate count [] → AreNaming named lines rows
AreNaming-none named lines rows count e n i c =
    absurd (Contains-none i (subst (λ ks. Contains ks i) (ap (λ (rs : List (List ℕ)). get_or rs n []) e ∙ empty_at count n) c))

-- one line further
pub AreNaming-line : (named : List Dtv) (lines : List Line) (old new : List (List ℕ)) (i : ℕ) (line : Line) → i < length lines →
    line ≡ get_or lines i line → AreNaming named lines old → HasNaming named (HasFront line) old i new → AreNaming named lines new
AreNaming-line named lines old new i line less is are more n j c = by (more n j c)
  where
    by : Contains (get_or old n []) j ⊎ ((j ≡ i) × IsAt named (HasFront line) n) → (l : Line) × (slice_get lines j ≡ Some l) × IsAt named (HasFront l) n
    by (inl d) = are n j d
    by (inr (e, at)) = (line, ap (slice_get lines) e ∙ slice_get-get_or lines i line less ∙ ap Some (sym is), at)

module _ (named : List Dtv) (P : Dtv → Type 0) where
  pub HasNaming-self : (rows now : List (List ℕ)) (i : ℕ) → now ≡ rows → HasNaming named P rows i now
  HasNaming-self rows now i e n j c = inl (subst (λ (rs : List (List ℕ)). Contains (get_or rs n []) j) e c)

  pub HasNaming-chain : (old between new : List (List ℕ)) (i : ℕ) → HasNaming named P old i between → HasNaming named P between i new →
      HasNaming named P old i new
  HasNaming-chain old between new i first second n j c = by (second n j c)
    where
      by : Contains (get_or between n []) j ⊎ ((j ≡ i) × IsAt named P n) → Contains (get_or old n []) j ⊎ ((j ≡ i) × IsAt named P n)
      by (inl d) = first n j d
      by (inr r) = inr r

  -- a number more in the row of a variable that has the property
  pub HasNaming-more : (old new : List (List ℕ)) (i number : ℕ) → number < length named → P (get_or named number no_variable) →
      HasMore old number i new → HasNaming named P old i new
  HasNaming-more old new i number less p more n j c = by (more n j c)
    where
      by : Contains (get_or old n []) j ⊎ ((n ≡ number) × (j ≡ i)) → Contains (get_or old n []) j ⊎ ((j ≡ i) × IsAt named P n)
      by (inl d) = inl d
      by (inr (e, f)) =
          inr (f, (get_or named number no_variable, ap (slice_get named) e ∙ slice_get-get_or named number no_variable less, p))

-- a property that is wider
pub HasNaming-wider : (named : List Dtv) (P Q : Dtv → Type 0) (old new : List (List ℕ)) (i : ℕ) → ((y : Dtv) → P y → Q y) →
    HasNaming named P old i new → HasNaming named Q old i new
HasNaming-wider named P Q old new i wider more n j c = by (more n j c)
  where
    by : Contains (get_or old n []) j ⊎ ((j ≡ i) × IsAt named P n) → Contains (get_or old n []) j ⊎ ((j ≡ i) × IsAt named Q n)
    by (inl d) = inl d
    by (inr (e, (y, at, p))) = inr (e, (y, at, wider y p))

-- the front of a front
pub front_before : (v w x : Dtv) (l : Label) → w ≡ longer v l → IsFront w x → IsFront v x
front_before v w x l e (u, f) = (l ∷ u, sym (extended-cons v l u) ∙ ap (λ z. extended z u) (sym e) ∙ f)

-- a line that stands in the row of a variable names it
pub IsNamed-row : (lines left : List Line) (stands : List Bool) (named : List Dtv) (rows : List (List ℕ)) (x : Dtv) (number i : ℕ) →
    AreNaming named lines rows → IsLeft lines stands left → slice_get named number ≡ Some x → Contains (slice_index_or rows number []) i →
    slice_index_or stands i false ≡ true → IsNamed left x
IsNamed-row lines left stands named rows x number i are is at c set = by (are number i c)
  where
    by : (l : Line) × (slice_get lines i ≡ Some l) × IsAt named (HasFront l) number → IsNamed left x
    by (l, there, (y, is_at, (z, h, f))) =
        (l, z, is.all i l there set, h, subst (λ v. IsFront v z) (one_some (slice_get named number) y x is_at at) f)
