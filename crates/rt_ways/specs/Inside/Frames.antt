-- The named variables of lines with their nodes and classes, and the first arcs between them.
use Rattle.std.specs.Prelude.{◌≡◌, ℕ, ◌<◌, ◌⊎◌, List, [], ◌∷◌, Contains, IsSome, Option, Some, None, length, slice_index_or}
use Rattle.rt_lines.specs.declared.label.Label.{Label}
use Rattle.rt_lines.specs.declared.label.Label.TheVariants.{Load, Store}
use Rattle.rt_lines.specs.declared.variable.Dtv.{Dtv}
use Rattle.rt_lines.specs.declared.line.Line.{Line}
use Rattle.rt_lines.specs.declared.line.Line.TheVariants.{Var, Same, Sub, Low, Up}
use Rattle.rt_named.specs.Naming.{named as all_named}
use Rattle.rt_components.specs.Groups.{Reaches}
use Rattle.rt_loose.specs.Kinds.{IsPointer}
use Rattle.rt_loose.specs.Laws.{flat_lines}
use Rattle.rt_shape.specs.Graphs.{Graph, node_of, IsReadWrite}
use Rattle.rt_shape.specs.Shapes.{IsShapeOf}
use Rattle.rt_ways.specs.declared.frame.Naming.{Naming}
use Rattle.rt_ways.specs.declared.frame.Shaping.{Shaping}
use Rattle.rt_ways.specs.declared.frame.Classing.{Classing}
use Rattle.rt_ways.specs.declared.frame.Frame.{Frame}
use Rattle.rt_ways.specs.Arcs.{AreWithin, IsInRow}
use Rattle.rt_ways.specs.Nets.{Net}
use Rattle.rt_ways.specs.Pushes.{AreClosure, AreDistinct, AreSteps, IsMade, step_of, variable_at}

-- a subtype line as it is; of any other line that its variables exist
abbrev pub flattened_line : Line → List Line
flattened_line (Var x) = Var x ∷ []
flattened_line (Same x y) = Var x ∷ Var y ∷ []
flattened_line (Sub x y) = Sub x y ∷ []
flattened_line (Low k x) = Var x ∷ []
flattened_line (Up x k) = Var x ∷ []

-- the nodes of the variables below a count
pub record AreNodes (graph : Graph) (named : List Dtv) (count : ℕ) (nodes : List ℕ) : Type 0 where
  pub each : length nodes ≡ count
  pub node : (n : ℕ) → n < count → node_of graph (variable_at named n) ≡ Some (slice_index_or nodes n 0)

-- each variable has a node
abbrev pub HaveNodes : Graph → List Dtv → Type 0
HaveNodes graph named = (n : ℕ) → n < length named → IsSome (node_of graph (variable_at named n))

-- for each group and letter a number that is made of one of the group by that letter, of the numbers below a count, if there is one
pub record AreBehind (named : List Dtv) (groups : List ℕ) (count : ℕ) (behind : List ((ℕ × Label) × ℕ)) : Type 0 where
  pub found : (g n : ℕ) (l : Label) → step_of behind g l ≡ Some n →
      (p : ℕ) × IsMade named n p l × (slice_index_or groups p 0 ≡ g)
  pub all : (n p : ℕ) (l : Label) → n < count → IsMade named n p l → IsSome (step_of behind (slice_index_or groups p 0) l)

-- the nodes of the variables in a shape of the flat lines
pub record AreClasses (lines : List Line) (named : List Dtv) (classes : List ℕ) : Type 0 where
  pub flat : Graph
  pub shape : IsShapeOf (flat_lines lines) flat
  pub nodes : AreNodes flat named (length named) classes

-- what is known of the variables that lines name
pub record IsFrameOf (lines : List Line) (frame : Frame) : Type 0 where
  pub named : frame.named ≡ all_named lines []
  pub few : length frame.named < 4294967296
  pub distinct : AreDistinct frame.named
  pub steps : AreSteps frame.named frame.steps.entries
  pub shape : IsShapeOf lines frame.shape
  pub nodes : AreNodes frame.shape frame.named (length frame.named) frame.nodes.items
  pub classes : AreClasses lines frame.named frame.classes.items
  pub behind : AreBehind frame.named frame.classes.items (length frame.named) frame.behind.entries

-- the parts of that
pub record IsNaming (lines : List Line) (naming : Naming) : Type 0 where
  pub named : naming.named ≡ all_named lines []
  pub few : length naming.named < 4294967296
  pub distinct : AreDistinct naming.named
  pub steps : AreSteps naming.named naming.steps.entries

pub record IsShaping (lines : List Line) (named : List Dtv) (shaping : Shaping) : Type 0 where
  pub shape : IsShapeOf lines shaping.shape
  pub nodes : AreNodes shaping.shape named (length named) shaping.nodes.items

pub record IsClassing (lines : List Line) (named : List Dtv) (classing : Classing) : Type 0 where
  pub classes : AreClasses lines named classing.classes.items
  pub behind : AreBehind named classing.classes.items (length named) classing.behind.entries

abbrev pub frame_of : Naming → Shaping → Classing → Frame
frame_of naming shaping classing = record {
  named = naming.named;
  steps = naming.steps;
  shape = shaping.shape;
  nodes = shaping.nodes;
  classes = classing.classes;
  behind = classing.behind;
}

-- the number is behind a load or a store of one of the class that can be read and written through
pub record IsPointee (frame : Frame) (class n : ℕ) : Type 0 where
  pub parent : ℕ
  pub letter : Label
  pub made : IsMade frame.named n parent letter
  pub pointer : IsPointer letter
  pub of_class : slice_index_or frame.classes.items parent 0 ≡ class
  pub flips : IsReadWrite frame.shape (slice_index_or frame.nodes.items parent 0)

-- the first, if there is one, else the second
abbrev pub or_else : Option ℕ → Option ℕ → Option ℕ
or_else None other = other
or_else (Some n) other = Some n

-- a number behind a load, or else a store, of the class
abbrev pub hub_of : List ((ℕ × Label) × ℕ) → ℕ → Option ℕ
hub_of behind class = or_else (step_of behind class Load) (step_of behind class Store)

-- a subtype line leads from one number to another
pub record IsOfLine (named : List Dtv) (lines : List Line) (v w : ℕ) : Type 0 where
  pub left : v < length named
  pub right : w < length named
  pub line : Contains lines (Sub (variable_at named v) (variable_at named w))

-- two numbers are behind loads or stores of one class
abbrev pub AreExchanged : Frame → ℕ → ℕ → Type 0
AreExchanged frame v w = (class : ℕ) × IsPointee frame class v × IsPointee frame class w

-- what is asked of a frame where arcs to hubs are entered
pub record IsReady (frame : Frame) : Type 0 where
  pub distinct : AreDistinct frame.named
  pub nodes : length frame.nodes.items ≡ length frame.named
  pub classes : length frame.classes.items ≡ length frame.named
  pub within : (class n : ℕ) → hub_of frame.behind.entries class ≡ Some n → n < length frame.named

-- the number can be exchanged with the hub of its class
abbrev pub IsForHub : Frame → ℕ → ℕ → Type 0
IsForHub frame n hub = (class : ℕ) × IsPointee frame class n × (hub_of frame.behind.entries class ≡ Some hub)

-- from the number to the hub of its class, or the other way
abbrev pub IsAtHub : Frame → ℕ → ℕ → ℕ → Type 0
IsAtHub frame n v w = ((v ≡ n) × IsForHub frame n w) ⊎ ((w ≡ n) × IsForHub frame n v)

-- the same of some number below a count
abbrev pub IsToHub : Frame → ℕ → ℕ → ℕ → Type 0
IsToHub frame count v w = (n : ℕ) × (n < count) × IsAtHub frame n v w

-- the arcs of subtype lines
pub record AreOfLines (named : List Dtv) (lines : List Line) (arcs : List (List ℕ)) : Type 0 where
  pub each : length arcs ≡ length named
  pub all : (v w : ℕ) → IsOfLine named lines v w → IsInRow arcs v w
  pub only : (v w : ℕ) → IsInRow arcs v w → IsOfLine named lines v w

-- the first arcs: those of lines, and such that arcs lead between all that can be exchanged
pub record AreFirst (lines : List Line) (frame : Frame) (arcs : List (List ℕ)) : Type 0 where
  pub each : length arcs ≡ length frame.named
  pub within : AreWithin arcs
  pub lines_in : (v w : ℕ) → IsOfLine frame.named lines v w → IsInRow arcs v w
  pub exchanged : (v w : ℕ) → AreExchanged frame v w → Reaches (IsInRow arcs) v w
  pub only : (v w : ℕ) → IsInRow arcs v w → IsOfLine frame.named lines v w ⊎ AreExchanged frame v w

-- the rows of the closed arcs, by some first arcs
pub record AreAbove (lines : List Line) (frame : Frame) (above : List (List ℕ)) : Type 0 where
  pub arcs : List (List ℕ)
  pub first : AreFirst lines frame arcs
  pub closed : AreClosure frame.named (IsInRow arcs) above

-- a frame with such rows
abbrev pub net_of : Frame → List (List ℕ) → List (List ℕ) → Net
net_of frame above below = record {
  named = frame.named;
  steps = frame.steps.entries;
  classes = frame.classes.items;
  behind = frame.behind.entries;
  above = above;
  below = below;
}
