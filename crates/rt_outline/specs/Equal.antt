-- Numbers of variables by what arcs lead between both ways.
use Rattle.std.specs.Prelude.{◌≡◌, ℕ, ◌<◌, List, length, slice_index_or}
use Rattle.rt_lines.specs.declared.variable.Dtv.{Dtv}
use Rattle.rt_lines.specs.declared.line.Line.{Line}
use Rattle.rt_lines.specs.declared.line.Line.TheVariants.{Sub}
use Rattle.rt_lines.specs.Orders.{Below}
use Rattle.rt_rules.specs.Rules.{Derivable}
use Rattle.rt_outline.specs.Frames.{variable_at}

-- of two variables each lies below the other by the lines
abbrev pub AreEqual : Below → List Line → List Dtv → ℕ → ℕ → Type 0
AreEqual order lines named i j = Derivable order lines (Sub (variable_at named i) (variable_at named j)) ×
    Derivable order lines (Sub (variable_at named j) (variable_at named i))

-- a number for each variable; those with one number lie below each other
pub record AreInnerEquals (lines : List Line) (named : List Dtv) (numbers : List ℕ) : Type 0 where
  pub each : length numbers ≡ length named
  pub only : (order : Below) (i j : ℕ) → i < length named → j < length named →
      slice_index_or numbers i 0 ≡ slice_index_or numbers j 0 → AreEqual order lines named i j

-- a number below a count for each variable; those that lie below each other have one number
pub record AreOuterEquals (lines : List Line) (named : List Dtv) (count : ℕ) (numbers : List ℕ) : Type 0 where
  pub each : length numbers ≡ length named
  pub few : (i : ℕ) → i < length named → slice_index_or numbers i 0 < count
  pub all : (order : Below) (i j : ℕ) → i < length named → j < length named → AreEqual order lines named i j →
      slice_index_or numbers i 0 ≡ slice_index_or numbers j 0
