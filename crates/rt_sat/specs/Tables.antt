-- Which named variable lies below which, by numbered edges.
use Rattle.std.specs.Prelude.{◌≡◌, ℕ, ◌<◌, ◌↔◌, ◌⊎◌, List, Contains, Bool, IsTrue, [], false, Some, length, slice_get}
use Rattle.rt_lines.specs.declared.variable.Dtv.{Dtv}
use Rattle.rt_lines.specs.declared.line.Line.{Line}
use Rattle.rt_lines.specs.declared.line.Line.TheVariants.{Var, Sub, Low, Up}
use Rattle.rt_lines.specs.Orders.{Below, IsAtOrBelow}
use Rattle.rt_rules.specs.Rules.{Derivable}
use Rattle.rt_bridge.specs.Growing.{Given}
use Rattle.rt_shape.specs.Graphs.{Graph, node_of}
use Rattle.rt_shape.specs.Shapes.{IsShapeOf}
use Rattle.rt_named.specs.Naming.{named}
use Rattle.rt_named.specs.Nodes.{flips_at}
use Rattle.rt_sat.specs.declared.state.State.{State}
use Rattle.rt_sat.specs.declared.state.Edge.{Edge}
use Rattle.rt_sat.specs.declared.table.Begun.{Begun}
use Rattle.rt_sat.specs.Numbered.{at_number, AreDistinct}
use Rattle.rt_sat.specs.Pushes.{flip_at, AreChildren, IsBuilt, IsFrame, IsClosing}
use Rattle.rt_sat.specs.Mattering.{AreMarked, AreMattering}
use Rattle.rt_sat.specs.Closings.{AreLineEdges}
use Rattle.rt_sat.specs.Searches.{Walk}

-- the flags say of each variable whether its node has a load and a store
abbrev pub AreFlagged : Graph → List Dtv → List Bool → Type 0
AreFlagged graph known flips = (n : ℕ) → n < length known → flip_at flips n ≡ flips_at graph (node_of graph (at_number known n))

-- each of the variables exists
abbrev pub AreThere : List Line → List Dtv → Type 0
AreThere lines extra = (order : Below) (x : Dtv) → Contains extra x → Derivable order lines (Var x)

-- what lines and existing variables name, with the flags of its nodes, is a frame
abbrev pub FrameLaw : Type 0
FrameLaw =
    (L : Given) (extra : List Dtv) (graph : Graph) (flips : List Bool) → IsShapeOf L.lines graph → AreThere L.lines extra →
    AreFlagged graph (named L.lines extra) flips → IsFrame L (named L.lines extra) flips

-- the edges of the lines with what is pushed from their ways as far as counts matter, between the variables that the lines and others name
pub record IsTableOf (lines : List Line) (extra known : List Dtv) (edges : List Edge) : Type 0 where
  pub graph : Graph
  pub flips : List Bool
  pub marks : List Bool
  pub matters : List Bool
  pub first : List Edge
  pub is_named : known ≡ named lines extra
  pub shape : IsShapeOf lines graph
  pub flagged : AreFlagged graph known flips
  pub marked : AreMarked graph marks
  pub mattering : AreMattering graph marks known matters
  pub extra_there : AreThere lines extra
  pub entered : AreLineEdges lines known first
  pub closing : IsClosing known flips matters first edges

-- what a table begins with: the named variables with what is known of them, and the edges of the lines
pub record IsBegun (lines : List Line) (extra : List Dtv) (marks : List Bool) (begun : Begun) : Type 0 where
  pub graph : Graph
  pub is_named : begun.frame.named ≡ named lines extra
  pub distinct : AreDistinct begun.frame.named
  pub children : AreChildren begun.frame.named begun.frame.children.items
  pub nodes : length begun.frame.nodes.items ≡ length begun.frame.named
  pub shape : IsShapeOf lines graph
  pub flagged : AreFlagged graph begun.frame.named begun.frame.flips.items
  pub marked : AreMarked graph marks
  pub mattering : AreMattering graph marks begun.frame.named begun.frame.matters.items
  pub extra_there : AreThere lines extra
  pub entered : AreLineEdges lines begun.frame.named begun.first.items

-- a table in which counts matter everywhere
pub record IsWholeTableOf (lines : List Line) (extra known : List Dtv) (edges : List Edge) : Type 0 where
  pub table : IsTableOf lines extra known edges
  pub whole : table.marks ≡ []

-- a table, and how many of its edges, the first ones, are those of the lines
pub record IsLayered (lines : List Line) (extra known : List Dtv) (edges : List Edge) (count : ℕ) : Type 0 where
  pub table : IsTableOf lines extra known edges
  pub counted : count ≡ length table.first

-- the state of a number that turns nothing round
abbrev pub place : ℕ → State
place n = record { variable = n; contra = false }

-- in a table a way of count nought leads from one variable to another exactly if the first lies below the second
abbrev pub BelowLaw : Type 0
BelowLaw =
    (order : Below) (lines : List Line) (extra known : List Dtv) (edges : List Edge) → IsTableOf lines extra known edges →
    (i j : ℕ) →
    i < length known → j < length known →
    Derivable order lines (Sub (at_number known i) (at_number known j)) ↔ Walk edges (place i) (place j) 0

-- one of the variables lies below one of the others
abbrev pub HasBelow : Below → List Line → List Dtv → List ℕ → List ℕ → Type 0
HasBelow order lines known sources targets =
    (s : ℕ) × (t : ℕ) × Contains sources s × Contains targets t ×
    Derivable order lines (Sub (at_number known s) (at_number known t))

-- a way of count nought leads from one of the numbers to one of the others
abbrev pub HasNought : List Edge → List ℕ → List ℕ → Type 0
HasNought edges sources targets = (s : ℕ) × (t : ℕ) × Contains sources s × Contains targets t × Walk edges (place s) (place t) 0

-- what is pushed from the edges of lines has a way of count nought, as it is answered: yes is said of edges pushed so far, no of all
pub record IsAnswer (begun : Begun) (sources targets : List ℕ) (yes : Bool) : Type 0 where
  pub edges : List Edge
  pub built : IsBuilt begun.frame.named begun.frame.flips.items begun.first.items edges
  pub says : IsTrue yes ↔ HasNought edges sources targets
  pub whole : IsTrue yes ⊎ IsClosing begun.frame.named begun.frame.flips.items begun.frame.matters.items begun.first.items edges

-- the numbers of the variables of lower bounds at or above a constant
pub record AreLows (order : Below) (lines : List Line) (known : List Dtv) (k : ℕ) (numbers : List ℕ) : Type 0 where
  pub only : (n : ℕ) → Contains numbers n → (bound : ℕ) × (z : Dtv) × Contains lines (Low bound z) × IsAtOrBelow order k bound ×
      (slice_get known n ≡ Some z)
  pub all : (bound : ℕ) (z : Dtv) → Contains lines (Low bound z) → IsAtOrBelow order k bound → (n : ℕ) × Contains numbers n ×
      (slice_get known n ≡ Some z)

-- the numbers of the variables of upper bounds at or below a constant
pub record AreUps (order : Below) (lines : List Line) (known : List Dtv) (k : ℕ) (numbers : List ℕ) : Type 0 where
  pub only : (n : ℕ) → Contains numbers n → (bound : ℕ) × (z : Dtv) × Contains lines (Up z bound) × IsAtOrBelow order bound k ×
      (slice_get known n ≡ Some z)
  pub all : (bound : ℕ) (z : Dtv) → Contains lines (Up z bound) → IsAtOrBelow order bound k → (n : ℕ) × Contains numbers n ×
      (slice_get known n ≡ Some z)
