-- The graph of lists of lines, and the tree of the variables that they name.
use Rattle.std.specs.Prelude.{◌≡◌, ℕ, ◌↔◌, List, Contains, Some, IsSome}
use Rattle.rt_lines.specs.declared.label.Label.{Label}
use Rattle.rt_lines.specs.declared.variable.Dtv.{Dtv}
use Rattle.rt_lines.specs.declared.line.Line.{Line}
use Rattle.rt_lines.specs.declared.line.Line.TheVariants.{Var, Same, Sub, Low, Up}
use Rattle.rt_lines.specs.Orders.{Below}
use Rattle.rt_rules.specs.Rules.{extended, HasSide, Derivable}
use Rattle.rt_shape.specs.Graphs.{Graph, node_of, Has}

-- a variable has a node exactly if there is that variable, and two have one node exactly if they have one shape
pub record IsShapeOf (lines : List Line) (graph : Graph) : Type 0 where
  pub there : (order : Below) (x : Dtv) → IsSome (node_of graph x) ↔ Derivable order lines (Var x)
  pub one : (order : Below) (x y : Dtv) (m n : ℕ) → node_of graph x ≡ Some m → node_of graph y ≡ Some n → (m ≡ n) ↔
      Derivable order lines (Same x y)

-- the second variable is the first, or it with more letters
abbrev pub IsFront : Dtv → Dtv → Type 0
IsFront x y = (w : List Label) × (extended x w ≡ y)

-- the lines have a side of which the variable is a front
abbrev pub IsNamed : List Line → Dtv → Type 0
IsNamed lines x = (l : Line) × (y : Dtv) × Contains lines l × HasSide l y × IsFront x y

-- a node for each variable that the lines name, and for no other
pub record IsNaming (lines : List Line) (graph : Graph) : Type 0 where
  pub sides : (l : Line) (x : Dtv) → Contains lines l → HasSide l x → Has graph x
  pub only : (x : Dtv) → Has graph x → IsNamed lines x

-- the line says that the two variables have one shape
abbrev pub Equates : Line → Dtv → Dtv → Type 0
Equates (Var z) x y = ⊥
Equates (Same u v) x y = (u ≡ x) × (v ≡ y)
Equates (Sub u v) x y = (u ≡ x) × (v ≡ y)
Equates (Low k z) x y = ⊥
Equates (Up z k) x y = ⊥

-- the nodes of two variables that the line says have one shape
abbrev pub ArePairOf : Graph → Line → ℕ → ℕ → Type 0
ArePairOf graph l i j = (x : Dtv) × (y : Dtv) × Equates l x y × (node_of graph x ≡ Some i) × (node_of graph y ≡ Some j)

-- the pairs are those of the lines
pub record ArePairs (lines : List Line) (graph : Graph) (pairs : List (ℕ × ℕ)) : Type 0 where
  pub found : (l : Line) (i j : ℕ) → Contains lines l → ArePairOf graph l i j → Contains pairs (i, j)
  pub only : (i j : ℕ) → Contains pairs (i, j) → (l : Line) × Contains lines l × ArePairOf graph l i j
