-- Which named variables lie below which, as contracts see it.
use Rattle.std.specs.Prelude.{◌≡◌, ◌↔◌, ℕ, ◌<◌, List, [], Contains, IsSome, Some, length, slice_index_or}
use Rattle.rt_lines.specs.declared.label.Label.{Label}
use Rattle.rt_lines.specs.declared.label.Variance.TheVariants.{Co}
use Rattle.rt_lines.specs.declared.variable.Dtv.{Dtv}
use Rattle.rt_lines.specs.declared.line.Line.{Line}
use Rattle.rt_lines.specs.Orders.{Below}
use Rattle.rt_named.specs.Naming.{named as all_named}
use Rattle.rt_loose.specs.Kinds.{flexible, signed}
use Rattle.rt_loose.specs.Ways.{Way}
use Rattle.rt_ways.specs.Arcs.{IsInRow}
use Rattle.rt_ways.specs.Pushes.{AreDistinct, IsMade, step_of, variable_at}

-- variables by number; the numbers with a letter more; the class of each; for a class and a letter a number behind that letter;
-- for each number those above it, and those below it
pub record Net : Type 0 where
  pub named : List Dtv
  pub steps : List ((ℕ × Label) × ℕ)
  pub classes : List ℕ
  pub behind : List ((ℕ × Label) × ℕ)
  pub above : List (List ℕ)
  pub below : List (List ℕ)

-- each variable has a class, and what is behind letters of classes are numbers of variables
pub record IsSized (net : Net) : Type 0 where
  pub classes : length net.classes ≡ length net.named
  pub behind : (class n : ℕ) (l : Label) → step_of net.behind class l ≡ Some n → n < length net.classes

-- the class of a number
abbrev pub class_at : Net → ℕ → ℕ
class_at net n = slice_index_or net.classes n 0

-- the ways between the variables that lines name, over these variables
pub record AreWaysOf (lines : List Line) (net : Net) : Type 0 where
  pub named : net.named ≡ all_named lines []
  pub few : length net.named < 4294967296
  pub distinct : AreDistinct net.named
  pub sized : IsSized net
  pub steps : (n p : ℕ) (l : Label) → (step_of net.steps p l ≡ Some n) ↔ IsMade net.named n p l
  pub classes : (order : Below) (i j : ℕ) → i < length net.named → j < length net.named → (class_at net i ≡ class_at net j) ↔
      Way order lines (Contains net.named) (variable_at net.named i) (variable_at net.named j) flexible
  pub behind_found : (class n : ℕ) (l : Label) → step_of net.behind class l ≡ Some n →
      (p : ℕ) × IsMade net.named n p l × (class_at net p ≡ class)
  pub behind_all : (n p : ℕ) (l : Label) → IsMade net.named n p l → IsSome (step_of net.behind (class_at net p) l)
  pub above : (order : Below) (i j : ℕ) → i < length net.named → j < length net.named → IsInRow net.above i j ↔
      Way order lines (Contains net.named) (variable_at net.named i) (variable_at net.named j) (signed Co)
  pub below : (order : Below) (i j : ℕ) → i < length net.named → j < length net.named → IsInRow net.below j i ↔
      Way order lines (Contains net.named) (variable_at net.named i) (variable_at net.named j) (signed Co)
  pub above_within : (i j : ℕ) → IsInRow net.above i j → j < length net.named
  pub below_within : (i j : ℕ) → IsInRow net.below i j → j < length net.named
