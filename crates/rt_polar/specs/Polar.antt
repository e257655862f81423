-- Which variable may take the place of an existential.
use Rattle.std.specs.Prelude.{◌≡◌, ◌≢◌, ℕ, ◌<◌, List, ◌∷◌, ◌++◌, length, All, Bool, true, false, slice_index_or}
use Rattle.rt_lines.specs.declared.label.Variance.{Variance}
use Rattle.rt_lines.specs.declared.label.Variance.TheVariants.{Co, Contra}
use Rattle.rt_lines.specs.declared.variable.Base.TheVariants.{Exist}
use Rattle.rt_lines.specs.declared.variable.Dtv.{Dtv}
use Rattle.rt_lines.specs.declared.line.Line.{Line}
use Rattle.rt_rules.specs.Put.{HasUse, use_of}

-- the line at a place says z <= n or n <= z, z has another base, and no other line has a use of n of that sign
pub record IsSole (sign : Variance) (n : ℕ) (z : Dtv) (lines : List Line) (place : ℕ) : Type 0 where
  pub other_base : z.base ≢ Exist n
  pub before : List Line
  pub after : List Line
  pub cut : lines ≡ before ++ use_of sign n z ∷ after
  pub at : place ≡ length before
  pub alone : All (λ l. HasUse sign n l → ⊥) (before ++ after)

-- no line does
abbrev pub HasNoSole : Variance → ℕ → List Line → Type 0
HasNoSole sign n lines = (z : Dtv) (place : ℕ) → IsSole sign n z lines place → ⊥

-- z is the side of the line at a place, the left one or not, that may take the place of the existential n: its only definition, or else
-- its only consumer
pub data IsCandidate (n : ℕ) (lines : List Line) : Variance → ℕ → Bool → Dtv → Type 0 where
  defines : (z : Dtv) (place : ℕ) → IsSole Co n z lines place → IsCandidate n lines Co place true z
  consumes : (z : Dtv) (place : ℕ) → HasNoSole Co n lines → IsSole Contra n z lines place → IsCandidate n lines Contra place false z

-- some side may
pub record HasCandidate (n : ℕ) (lines : List Line) : Type 0 where
  pub sign : Variance
  pub place : ℕ
  pub left : Bool
  pub z : Dtv
  pub is : IsCandidate n lines sign place left z

-- the line at the place, and no other, has a use of n of the sign
pub record IsOnlyPlace (sign : Variance) (n : ℕ) (lines : List Line) (place : ℕ) : Type 0 where
  pub within : place < length lines
  pub uses : (d : Line) → HasUse sign n (slice_index_or lines place d)
  pub only : (k : ℕ) (d : Line) → k < length lines → HasUse sign n (slice_index_or lines k d) → k ≡ place
