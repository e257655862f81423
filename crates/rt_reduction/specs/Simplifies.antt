-- Existentials give their places away, and those of the coarsest twinnings become one, in turn.
use Rattle.std.specs.Prelude.{◌≡◌, ◌≢◌, ℕ, List}
use Rattle.rt_lines.specs.declared.label.Variance.{Variance}
use Rattle.rt_lines.specs.declared.label.Variance.TheVariants.{Co, Contra}
use Rattle.rt_lines.specs.declared.line.Line.{Line}
use Rattle.rt_refine.specs.Refinements.{refined}
use Rattle.rt_twins.specs.Twinnings.{IsTwinning, IsCoarsestTwinning}
use Rattle.rt_polar.specs.Puts.{Puts}
use Rattle.rt_polar.specs.Tidied.{tidied}

-- no twinning of the sign has two existentials in one class
abbrev pub HasNoTwins : Variance → List Line → Type 0
HasNoTwins sign lines = (class : ℕ → ℕ) → IsTwinning sign lines class → (n : ℕ) → class n ≡ n

-- twins that are defined alike come first
pub data IsTurnOf : Variance → List Line → Type 0 where
  of_definitions : (lines : List Line) → IsTurnOf Co lines
  of_consumers : (lines : List Line) → HasNoTwins Co lines → IsTurnOf Contra lines

-- places are given away until no existential has a candidate, then the classes of the coarsest twinning of a sign become one each, and so
-- on until there are no twins
pub data Simplifies (left : List Line) : List Line → Type 0 where
  simple : (lines : List Line) → Puts left lines → HasNoTwins Co left → HasNoTwins Contra left → Simplifies left lines
  twins_go : (lines between : List Line) (sign : Variance) (class : ℕ → ℕ) (w : ℕ) → Puts between lines →
      IsTurnOf sign between →
      IsCoarsestTwinning sign between class → class w ≢ w → Simplifies left (tidied (refined class between)) → Simplifies left lines
