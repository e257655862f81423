-- Numbers of variables, equal exactly for those that lie below each other.
use Rattle.std.specs.Prelude.{◌≡◌, ℕ, ◌<◌, ◌↔◌, List, [], Some, length, slice_get, slice_index_or}
use Rattle.rt_lines.specs.declared.variable.Base.TheVariants.{Proc}
use Rattle.rt_lines.specs.declared.variable.Dtv.{Dtv}
use Rattle.rt_lines.specs.declared.line.Line.{Line}
use Rattle.rt_lines.specs.declared.line.Line.TheVariants.{Sub}
use Rattle.rt_lines.specs.Orders.{Below}
use Rattle.rt_rules.specs.Rules.{Derivable}
use Rattle.rt_rules.specs.Put.{exist}

-- what a place past the end is taken to hold
abbrev pub no_side : Dtv
no_side = record { base = Proc 0; word = [] }

-- the number that stands for a named variable
abbrev pub HasNumber : List Dtv → List ℕ → Dtv → ℕ → Type 0
HasNumber named equals x number = (i : ℕ) × (slice_get named i ≡ Some x) × (slice_index_or equals i 0 ≡ number)

-- the numbers that stand for variables
pub record AreNumbered (named : List Dtv) (equals : List ℕ) (sides : List Dtv) (numbers : List ℕ) : Type 0 where
  pub each : length numbers ≡ length sides
  pub number : (i : ℕ) → i < length sides → HasNumber named equals (slice_index_or sides i no_side) (slice_index_or numbers i 0)

-- the variable and the existential lie below each other
abbrev pub IsAlike : Below → List Line → ℕ → Dtv → Type 0
IsAlike order lines n z = Derivable order lines (Sub (exist n) z) × Derivable order lines (Sub z (exist n))

-- those that lie below the existential and above it have its number
abbrev pub AreAlikeAt : Below → List Line → ℕ → List Dtv → List ℕ → ℕ → Type 0
AreAlikeAt order lines n sides numbers own =
    (i : ℕ) → i < length sides → (slice_index_or numbers i 0 ≡ own) ↔ IsAlike order lines n (slice_index_or sides i no_side)
