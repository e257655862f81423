-- Bounds in rows, and their joins and meets.
use Rattle.std.specs.Prelude.{◌≡◌, ◌↔◌, ℕ, ◌<◌, List, Contains, length}
use Rattle.rt_lines.specs.declared.variable.Dtv.{Dtv}
use Rattle.rt_lines.specs.declared.line.Line.{Line}
use Rattle.rt_lines.specs.declared.line.Line.TheVariants.{Low, Up}
use Rattle.rt_ways.specs.Pushes.{variable_at}
use Rattle.rt_ways.specs.Arcs.{IsInRow}

-- a bound that stands in the row of one of the numbers
abbrev pub IsBoundOf : List (List ℕ) → List ℕ → ℕ → Type 0
IsBoundOf rows numbers k = (n : ℕ) × Contains numbers n × IsInRow rows n k

-- all bounds are below the count
abbrev pub AreBelow : ℕ → List (List ℕ) → Type 0
AreBelow count rows = (n k : ℕ) → IsInRow rows n k → k < count

-- above all of which something holds, and below all that is above these
pub record IsLeastOver (R : ℕ → ℕ → Type 0) (count : ℕ) (P : ℕ → Type 0) (c : ℕ) : Type 0 where
  pub within : c < count
  pub above : (k : ℕ) → P k → R k c
  pub least : (u : ℕ) → u < count → ((k : ℕ) → P k → R k u) → R c u

-- below all of which something holds, and above all that is below these
pub record IsGreatestUnder (R : ℕ → ℕ → Type 0) (count : ℕ) (P : ℕ → Type 0) (c : ℕ) : Type 0 where
  pub within : c < count
  pub below : (k : ℕ) → P k → R c k
  pub greatest : (u : ℕ) → u < count → ((k : ℕ) → P k → R u k) → R u c

-- a line gives the variable of a number a lower bound
abbrev pub IsLow : List Dtv → List Line → ℕ → ℕ → Type 0
IsLow named lines n k = (n < length named) × Contains lines (Low k (variable_at named n))

-- an upper bound
abbrev pub IsUp : List Dtv → List Line → ℕ → ℕ → Type 0
IsUp named lines n k = (n < length named) × Contains lines (Up (variable_at named n) k)

-- the rows, so many, have the bounds of which something holds
pub record AreBoundsOf (count : ℕ) (P : ℕ → ℕ → Type 0) (rows : List (List ℕ)) : Type 0 where
  pub each : length rows ≡ count
  pub bound : (n k : ℕ) → IsInRow rows n k ↔ P n k
