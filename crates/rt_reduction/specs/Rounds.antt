-- Rounds of what reduces lines, until nothing is left to do.
use Rattle.std.specs.Prelude.{◌≡◌, ◌≢◌, ℕ, ◌⊎◌, List, [], Contains, Bool}
use Rattle.rt_lines.specs.declared.label.Variance.{Variance}
use Rattle.rt_lines.specs.declared.label.Variance.TheVariants.{Co, Contra}
use Rattle.rt_lines.specs.declared.variable.Base.TheVariants.{Exist}
use Rattle.rt_lines.specs.declared.line.Line.{Line}
use Rattle.rt_lines.specs.Orders.{Below}
use Rattle.rt_rules.specs.Laws.{NamesBase}
use Rattle.rt_rules.specs.Put.{HasUse}
use Rattle.rt_refine.specs.Refinements.{IsCoarsest, refined}
use Rattle.rt_trim.specs.Idle.{AreIdle, trimmed}
use Rattle.rt_record.specs.Slots.{HasNoneSplit, IsSplit}
use Rattle.rt_twins.specs.Twinnings.{IsTwinning}
use Rattle.rt_polar.specs.Polar.{HasCandidate}
use Rattle.rt_polar.specs.Tidied.{tidied}
use Rattle.rt_reduction.specs.Drops.{Drops}
use Rattle.rt_reduction.specs.Emits.{IsAnchored, IsEmitted}
use Rattle.rt_reduction.specs.Merges.{Merges}
use Rattle.rt_reduction.specs.Simplifies.{HasNoTwins, Simplifies}

-- existentials of one shape whose lines are the same but for classes become the least of their class, and the lines are tidied
abbrev pub Refines : List Line → List Line → Type 0
Refines lines left = (class : ℕ → ℕ) × IsCoarsest lines class × (left ≡ tidied (refined class lines))

-- Existentials that are used alike become one, places are given away, and twins become one. Where an existential is idle then, the lines
-- of idle ones become their shapes, and so on, until none of them has a `<=` line or bound.
pub data Prepares (left : List Line) : List Line → Type 0 where
  prepared : (lines between : List Line) (idle : ℕ → Bool) → Refines lines between → Simplifies left between →
      AreIdle left idle →
      trimmed idle left ≡ left → Prepares left lines
  trims : (lines between simple : List Line) (idle : ℕ → Bool) → Refines lines between → Simplifies simple between →
      AreIdle simple idle → trimmed idle simple ≢ simple → Prepares left (tidied (trimmed idle simple)) → Prepares left lines

-- Fields of existentials that do nothing but hold fields become existentials of their own, and what that leaves is tidied and prepared,
-- until no field does.
pub data Splits (left : List Line) : List Line → Type 0 where
  whole : HasNoneSplit left → Splits left left
  splits : (lines parted ready : List Line) → IsSplit lines parted → Prepares ready (tidied parted) → Splits left ready → Splits left lines

-- one round over tidied lines: they are prepared, the shape is written anew, equals become one, and what the other lines derive is dropped
pub record IsRound (order : Below) (lines after : List Line) : Type 0 where
  pub is_tidied : tidied lines ≡ lines
  pub simple : List Line
  pub emitted : List Line
  pub merged : List Line
  pub is_simple : Prepares simple lines
  pub is_emitted : IsEmitted order simple emitted
  pub is_merged : Merges order merged emitted
  pub is_dropped : Drops order [] merged after

-- nothing is left for another round
pub record IsDone (lines : List Line) : Type 0 where
  pub no_candidate : (n : ℕ) → HasCandidate n lines → ⊥
  pub no_twins : HasNoTwins Co lines × HasNoTwins Contra lines
  pub used : (n : ℕ) → NamesBase lines (Exist n) → (l : Line) × Contains lines l × (HasUse Co n l ⊎ HasUse Contra n l)
  pub joined : (n : ℕ) → NamesBase lines (Exist n) → IsAnchored lines (Exist n)

-- something is left for another round
pub data IsUnfinished (lines : List Line) : Type 0 where
  of_candidate : (n : ℕ) → HasCandidate n lines → IsUnfinished lines
  of_twins : (sign : Variance) (class : ℕ → ℕ) (n : ℕ) → IsTwinning sign lines class → class n ≢ n → IsUnfinished lines
  of_unused : (n : ℕ) → NamesBase lines (Exist n) →
      ((l : Line) → Contains lines l → HasUse Co n l ⊎ HasUse Contra n l → ⊥) →
      IsUnfinished lines
  of_unjoined : (n : ℕ) → NamesBase lines (Exist n) → (IsAnchored lines (Exist n) → ⊥) → IsUnfinished lines

-- rounds until nothing is left
pub data Reduces (order : Below) (reduced : List Line) : List Line → Type 0 where
  done : (lines : List Line) → IsRound order lines reduced → IsDone reduced → Reduces order reduced lines
  again : (lines between : List Line) → IsRound order lines between → (IsDone between → ⊥) → Reduces order reduced between →
      Reduces order reduced lines

-- The reduced form of lines: they are tidied and prepared, fields become existentials of their own, and rounds follow. Existentials have
-- the numbers that they have then, and lines the places.
pub record IsReducedForm (order : Below) (lines form : List Line) : Type 0 where
  pub ready : List Line
  pub start : List Line
  pub is_ready : Prepares ready (tidied lines)
  pub is_start : Splits start ready
  pub is_form : Reduces order form (tidied start)
