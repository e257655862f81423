-- Arcs of lines between the numbers of variables.
use Rattle.std.specs.Prelude.{◌≡◌, ◌↔◌, ℕ, ◌<◌, List, [], ◌∷◌, Contains, Bool, cond, Some, slice_get}
use Rattle.rt_lines.specs.declared.variable.Dtv.{Dtv}
use Rattle.rt_lines.specs.declared.line.Line.{Line}
use Rattle.rt_lines.specs.declared.line.Line.TheVariants.{Low, Sub, Up}
use Rattle.rt_lines.specs.Orders.{Below}
use Rattle.rt_rules.specs.Rules.{Derivable}
use Rattle.rt_outline.specs.declared.arc.Arc.{Arc}
use Rattle.rt_outline.specs.Arcs.{HasArc}

-- the number is that of the variable
abbrev pub IsNumber : List Dtv → ℕ → Dtv → Type 0
IsNumber named n x = slice_get named n ≡ Some x

-- the numbers are those of the variables
pub record AreNumbers (named variables : List Dtv) (numbers : List ℕ) : Type 0 where
  pub only : (n : ℕ) → Contains numbers n → (x : Dtv) × Contains variables x × IsNumber named n x
  pub all : (x : Dtv) → Contains variables x → (n : ℕ) × Contains numbers n × IsNumber named n x

-- a line at an index puts the variable of the first number below that of the second
pub record IsLineArc (lines : List Line) (named : List Dtv) (v w i : ℕ) : Type 0 where
  pub left : Dtv
  pub right : Dtv
  pub line : slice_get lines i ≡ Some (Sub left right)
  pub from : IsNumber named v left
  pub to : IsNumber named w right

-- the arcs of lines are those of the subtype lines before an index
pub record AreLineArcs (lines : List Line) (count : ℕ) (named : List Dtv) (arcs : List (List Arc)) : Type 0 where
  pub all : (i : ℕ) (x y : Dtv) → i < count → slice_get lines i ≡ Some (Sub x y) →
      (v : ℕ) × (w : ℕ) × IsNumber named v x × IsNumber named w y × HasArc arcs v w (Some i)
  pub only : (v w i : ℕ) → HasArc arcs v w (Some i) → IsLineArc lines named v w i

-- lines that have the same `<=` lines and bounds at the same indices, and of the rest none but these
pub record HaveSameFlow (lines others : List Line) : Type 0 where
  pub subtypes : (i : ℕ) (x y : Dtv) → (slice_get lines i ≡ Some (Sub x y)) ↔ (slice_get others i ≡ Some (Sub x y))
  pub lows : (i k : ℕ) (x : Dtv) → (slice_get lines i ≡ Some (Low k x)) ↔ (slice_get others i ≡ Some (Low k x))
  pub ups : (i k : ℕ) (x : Dtv) → (slice_get lines i ≡ Some (Up x k)) ↔ (slice_get others i ≡ Some (Up x k))
  pub rest : (l : Line) → Contains others l → Contains lines l

-- the lines whose flags are set
abbrev pub standing : List Line → List Bool → List Line
standing [] flags = []
standing (l ∷ lines) [] = []
standing (l ∷ lines) (flag ∷ flags) = cond flag (l ∷ standing lines flags) (standing lines flags)

-- by the lines one of the variables lies below one of the others
abbrev pub HasBelow : Below → List Line → List Dtv → List Dtv → Type 0
HasBelow order lines from to = (x : Dtv) × (y : Dtv) × Contains from x × Contains to y × Derivable order lines (Sub x y)

-- lines, and the variables that are numbered
pub record Lined : Type 0 where
  pub lines : List Line
  pub named : List Dtv
