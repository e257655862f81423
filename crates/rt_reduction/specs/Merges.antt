-- Existentials that equal other variables.
use Rattle.std.specs.Prelude.{◌≡◌, ◌≢◌, ℕ, ◌<◌, List, Contains, false}
use Rattle.rt_lines.specs.declared.variable.Base.TheVariants.{Exist}
use Rattle.rt_lines.specs.declared.variable.Dtv.{Dtv}
use Rattle.rt_lines.specs.declared.line.Line.{Line}
use Rattle.rt_lines.specs.declared.line.Line.TheVariants.{Sub}
use Rattle.rt_lines.specs.Orders.{Below}
use Rattle.rt_rules.specs.Rules.{HasSide, Derivable}
use Rattle.rt_rules.specs.Put.{exist, put_lines}
use Rattle.rt_polar.specs.Tidied.{tidied}
use Rattle.rt_reduction.specs.Before.{comes_before}

-- a side of another base and the existential lie below each other
pub record IsEqualTo (order : Below) (lines : List Line) (n : ℕ) (z : Dtv) : Type 0 where
  pub line : Line
  pub stands : Contains lines line
  pub is_side : HasSide line z
  pub other_base : z.base ≢ Exist n
  pub above : Derivable order lines (Sub (exist n) z)
  pub below : Derivable order lines (Sub z (exist n))

-- some side does
abbrev pub HasEqual : Below → List Line → ℕ → Type 0
HasEqual order lines n = (z : Dtv) × IsEqualTo order lines n z

-- the existential has an equal, and none before it does; the side is the first of its equals
pub record IsMerge (order : Below) (lines : List Line) (n : ℕ) (z : Dtv) : Type 0 where
  pub equal : IsEqualTo order lines n z
  pub first : (y : Dtv) → IsEqualTo order lines n y → comes_before y z ≡ false
  pub least : (m : ℕ) → m < n → HasEqual order lines m → ⊥

-- the least existential that has an equal gives its place to the first of these, again and again, until none has one
pub data Merges (order : Below) (left : List Line) : List Line → Type 0 where
  none_left : ((n : ℕ) → HasEqual order left n → ⊥) → Merges order left left
  merges : (n : ℕ) (z : Dtv) (lines : List Line) → IsMerge order lines n z → Merges order left (tidied (put_lines n z lines)) →
      Merges order left lines
