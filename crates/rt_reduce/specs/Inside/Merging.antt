-- The first of the equals of an existential.
use Rattle.std.specs.Prelude.{◌≡◌, ◌≢◌, ℕ, ◌⊎◌, List, All, Contains, Option, Some, MatchOption, true, false}
use Rattle.rt_lines.specs.declared.variable.Base.TheVariants.{Exist}
use Rattle.rt_lines.specs.declared.variable.Dtv.{Dtv}
use Rattle.rt_lines.specs.declared.line.Line.{Line}
use Rattle.rt_lines.specs.declared.line.Line.TheVariants.{Sub}
use Rattle.rt_lines.specs.Lines.{HasConstantsBelow}
use Rattle.rt_lines.specs.Orders.{Below}
use Rattle.rt_rules.specs.Rules.{HasSide, Derivable}
use Rattle.rt_rules.specs.Laws.{NamesBase}
use Rattle.rt_rules.specs.Put.{exist}
use Rattle.rt_reduction.specs.Before.{comes_before}
use Rattle.rt_reduction.specs.Emits.{AreOfScheme}
use Rattle.rt_reduction.specs.Merges.{IsEqualTo, Merges}

-- the variable is a side of a line
abbrev pub IsSide : List Line → Dtv → Type 0
IsSide lines z = (l : Line) × Contains lines l × HasSide l z

-- the variable is a side of another base than the existential, which the lines name
pub record IsNamedPair (lines : List Line) (n : ℕ) (z : Dtv) : Type 0 where
  pub other_base : z.base ≢ Exist n
  pub own : NamesBase lines (Exist n)
  pub side : IsSide lines z

-- a variable of another base and the existential lie below each other
pub record IsLike (order : Below) (lines : List Line) (n : ℕ) (z : Dtv) : Type 0 where
  pub other_base : z.base ≢ Exist n
  pub above : Derivable order lines (Sub (exist n) z)
  pub below : Derivable order lines (Sub z (exist n))

-- the first of such variables of a list, if it has any
abbrev pub IsFirstAmong : Below → List Line → ℕ → List Dtv → Option Dtv → Type 0
IsFirstAmong order lines n seen first =
    MatchOption first
    ((y : Dtv) → Contains seen y → IsLike order lines n y → ⊥)
    (λ z. Contains seen z × IsLike order lines n z ×
    ((y : Dtv) → Contains seen y → IsLike order lines n y → comes_before y z ≡ false))

-- the first of the equals of an existential
pub record IsFirstEqual (order : Below) (lines : List Line) (n : ℕ) (z : Dtv) : Type 0 where
  pub equal : IsEqualTo order lines n z
  pub first : (y : Dtv) → IsEqualTo order lines n y → comes_before y z ≡ false

-- of a known variable, if there is one, and a further one, the further one if it comes before the known one
abbrev pub IsEarlier : Option Dtv → Dtv → Option Dtv → Type 0
IsEarlier known z earlier =
    MatchOption known
    (earlier ≡ Some z)
    (λ k. ((comes_before z k ≡ true) × (earlier ≡ Some z)) ⊎ ((comes_before z k ≡ false) × (earlier ≡ Some k)))

-- what is left when existentials gave their places to the first of their equals
pub record AreMerged (lines left : List Line) : Type 0 where
  pub merges : (order : Below) → Merges order left lines
  pub scheme : AreOfScheme lines → AreOfScheme left
  pub constants : (count : ℕ) → All (HasConstantsBelow count) lines → All (HasConstantsBelow count) left
  pub named : (n : ℕ) → NamesBase left (Exist n) → NamesBase lines (Exist n)
