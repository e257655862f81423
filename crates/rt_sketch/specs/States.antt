-- States: what decides the words and marks behind a variable.
use Rattle.std.specs.Prelude.{◌≡◌, ℕ, zero, suc, ◌<◌, Option, Some, None, MatchOption, List, [], ◌∷◌, map, filter, Contains, nat_eq, length}
use Rattle.rt_lines.specs.declared.label.Label.{Label}
use Rattle.rt_lines.specs.declared.variable.Base.{Base}
use Rattle.rt_lines.specs.declared.variable.Dtv.{Dtv}
use Rattle.rt_lines.specs.declared.line.Line.{Line}
use Rattle.rt_lines.specs.declared.line.Line.TheVariants.{Var}
use Rattle.rt_lines.specs.Orders.{Below}
use Rattle.rt_rules.specs.Rules.{longer, Derivable}
use Rattle.rt_named.specs.Naming.{named as all_named}
use Rattle.rt_shape.specs.Graphs.{bare, node_of}
use Rattle.rt_shape.specs.Shapes.{IsShapeOf}
use Rattle.rt_loose.specs.Sets.{Sets, AreSets}
use Rattle.rt_ways.specs.Nets.{Net, AreWaysOf, class_at}
use Rattle.rt_ways.specs.Pushes.{variable_at}
use Rattle.rt_sketch.specs.Bounds.{AreBoundsOf, IsLow, IsUp}
use Rattle.rt_sketch.specs.declared.machine.Machine.{Machine}
use Rattle.rt_sketch.specs.declared.state.State.{State}

-- the numbers below a count
abbrev pub numbers_below : ℕ → List ℕ
numbers_below zero = []
numbers_below (suc n) = n ∷ numbers_below n

-- the numbers of a class
abbrev pub members : Net → Option ℕ → List ℕ
members net None = []
members net (Some class) = filter (λ n. nat_eq (class_at net n) class) (numbers_below (length net.named))

-- the variables of numbers
abbrev pub variables : Net → List ℕ → List Dtv
variables net numbers = map (variable_at net.named) numbers

-- the sets that a class and two lists of numbers are
abbrev pub sets_of : Net → Option ℕ → List ℕ → List ℕ → Sets
sets_of net class below above =
    record { class = variables net (members net class); below = variables net below; above = variables net above }

-- the numbers are those of variables
abbrev pub AreNumbers : Net → List ℕ → Type 0
AreNumbers net numbers = (n : ℕ) → Contains numbers n → n < length net.named

-- the class and the lists are the sets of a variable
pub record AreSetsOf (lines : List Line) (net : Net) (class : Option ℕ) (below above : List ℕ) (x : Dtv) : Type 0 where
  pub below_in : AreNumbers net below
  pub above_in : AreNumbers net above
  pub sets : (order : Below) → AreSets order lines (all_named lines []) x (sets_of net class below above)

-- the state is that of a variable: its node, and its sets
pub record Denotes (lines : List Line) (machine : Machine) (state : State) (x : Dtv) : Type 0 where
  pub node : node_of machine.shape x ≡ Some state.node
  pub sets : AreSetsOf lines machine.ways state.class state.below.items state.above.items x

-- where the letter leads from each variable of a state: nowhere, or to a state of what is behind it
abbrev pub LeadsTo : List Line → Machine → State → Label → Option State → Type 0
LeadsTo lines machine state l next = (x : Dtv) → Denotes lines machine state x →
    MatchOption next ((order : Below) → Derivable order lines (Var (longer x l)) → ⊥)
    (λ (t : State). Denotes lines machine t (longer x l))

-- the state of a base alone: none where there is no such variable
abbrev pub Starts : List Line → Machine → Base → Option State → Type 0
Starts lines machine b first =
    MatchOption first ((order : Below) → Derivable order lines (Var (bare b)) → ⊥) (λ (t : State). Denotes lines machine t (bare b))

-- the machine is that of the lines
pub record IsMachineOf (lines : List Line) (machine : Machine) : Type 0 where
  pub shape : IsShapeOf lines machine.shape
  pub ways : AreWaysOf lines machine.ways
  pub lows : AreBoundsOf (length machine.ways.named) (IsLow machine.ways.named lines) machine.lows.items
  pub ups : AreBoundsOf (length machine.ways.named) (IsUp machine.ways.named lines) machine.ups.items
