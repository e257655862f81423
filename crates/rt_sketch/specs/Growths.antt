-- Trees of states, on the way and whole.
use Rattle.std.specs.Prelude.{◌≡◌, ℕ, ◌<◌, ◌≤◌, ◌⊎◌, Contains, List, [], None, MatchOption, Some, length, slice_get, slice_index_or}
use Rattle.rt_lines.specs.declared.label.Label.{Label}
use Rattle.rt_lines.specs.declared.variable.Dtv.{Dtv}
use Rattle.rt_lines.specs.declared.line.Line.{Line}
use Rattle.rt_lines.specs.declared.line.Line.TheVariants.{Var}
use Rattle.rt_lines.specs.Orders.{Below}
use Rattle.rt_rules.specs.Rules.{longer, Derivable}
use Rattle.rt_tree.specs.Trees.{Nodes, marks_of, node_at, step_of}
use Rattle.rt_sketch.specs.declared.machine.Machine.{Machine}
use Rattle.rt_sketch.specs.declared.state.State.{State}
use Rattle.rt_sketch.specs.Sketches.{AreMarks}
use Rattle.rt_sketch.specs.States.{Denotes}

-- the step of a node by a letter leads where the letter leads from what its state denotes
abbrev pub IsStep : List Line → Machine → List State → Nodes → ℕ → Label → Type 0
IsStep lines machine states tree n l = (s : State) (x : Dtv) → slice_get states n ≡ Some s → Denotes lines machine s x →
    MatchOption (step_of tree n l) ((order : Below) → Derivable order lines (Var (longer x l)) → ⊥)
    (λ m. (t : State) × (slice_get states m ≡ Some t) × Denotes lines machine t (longer x l))

-- a node for each state, with its marks; the nodes below a count have the steps of their states, the others none
pub record IsGrowing (order : Below) (lines : List Line) (machine : Machine) (states : List State) (tree : Nodes)
    (count : ℕ) : Type 0 where
  pub each : length tree ≡ length states
  pub marks : (n : ℕ) (s : State) (x : Dtv) → slice_get states n ≡ Some s → Denotes lines machine s x →
      AreMarks order lines x (marks_of (node_at tree n))
  pub steps : (n : ℕ) (l : Label) → n < count → IsStep lines machine states tree n l
  pub rest : (n : ℕ) (l : Label) → count ≤ n → step_of tree n l ≡ None

-- the tree of all states that come after the first one, which is the root's
pub record IsGrown (order : Below) (lines : List Line) (machine : Machine) (first : State) (tree : Nodes) : Type 0 where
  pub states : List State
  pub begins : slice_get states 0 ≡ Some first
  pub growing : IsGrowing order lines machine states tree (length states)

-- what is behind the state of a number is behind one of the letters
abbrev pub HasNextAt : List Line → Machine → List State → ℕ → List Label → Type 0
HasNextAt lines machine states n letters = (order : Below) (s : State) (x : Dtv) (l : Label) → slice_get states n ≡ Some s →
    Denotes lines machine s x → Derivable order lines (Var (longer x l)) → Contains letters l

-- what is behind a state is behind one of the letters of its node
abbrev pub HasNextRows : List Line → Machine → List (List Label) → Type 0
HasNextRows lines machine rows = (order : Below) (s : State) (x : Dtv) (l : Label) → Denotes lines machine s x →
    Derivable order lines (Var (longer x l)) → Contains (slice_index_or rows s.node []) l

-- the steps that were taken: those of the nodes below a count by all letters, that of the node of the count by these letters
abbrev pub IsTaken : ℕ → List Label → ℕ → Label → Type 0
IsTaken count gone n l = (n < count) ⊎ ((n ≡ count) × Contains gone l)

-- a node for each state, and edges only of steps that were taken
pub record HasTaken (count : ℕ) (gone : List Label) (states : List State) (tree : Nodes) : Type 0 where
  pub each : length tree ≡ length states
  pub rest : (n : ℕ) (l : Label) → (IsTaken count gone n l → ⊥) → step_of tree n l ≡ None

-- the nodes have the marks of their states
abbrev pub HasMarks : Below → List Line → Machine → List State → Nodes → Type 0
HasMarks order lines machine states tree = (n : ℕ) (s : State) (x : Dtv) → slice_get states n ≡ Some s →
    Denotes lines machine s x →
    AreMarks order lines x (marks_of (node_at tree n))

-- the nodes have marks, and the steps that were taken
pub record IsOnWay (order : Below) (lines : List Line) (machine : Machine) (count : ℕ) (gone : List Label) (states : List State)
    (tree : Nodes) : Type 0 where
  pub marks : HasMarks order lines machine states tree
  pub steps : (n : ℕ) (l : Label) → IsTaken count gone n l → IsStep lines machine states tree n l

-- states stay, and edges, but for that of a node by a letter
pub record IsMore (from : ℕ) (l : Label) (states : List State) (tree : Nodes) (after : List State) (longer : Nodes) : Type 0 where
  pub each : length longer ≡ length after
  pub long : length tree ≤ length longer
  pub kept : (n : ℕ) (s : State) → slice_get states n ≡ Some s → slice_get after n ≡ Some s
  pub others : (n : ℕ) (k : Label) → ((n ≡ from) × (k ≡ l) → ⊥) → step_of longer n k ≡ step_of tree n k

-- the states are made of the same numbers
pub record AreAlike (s t : State) : Type 0 where
  pub node : s.node ≡ t.node
  pub class : s.class ≡ t.class
  pub below : s.below.items ≡ t.below.items
  pub above : s.above.items ≡ t.above.items

-- an edge of the letter leads to a state like this one
abbrev pub LeadsFrom : ℕ → Label → State → List State → Nodes → Type 0
LeadsFrom from l next states tree =
    (m : ℕ) × (t : State) × (step_of tree from l ≡ Some m) × (slice_get states m ≡ Some t) × AreAlike next t

-- each node has the marks that it had, or its state is the next one, with these marks
abbrev pub IsMarkedBy : State → ℕ × ℕ → List State → Nodes → List State → Nodes → Type 0
IsMarkedBy next marks states tree after longer = (n : ℕ) (s : State) → slice_get after n ≡ Some s →
    ((slice_get states n ≡ Some s) × (marks_of (node_at longer n) ≡ marks_of (node_at tree n))) ⊎
    ((s ≡ next) × (marks_of (node_at longer n) ≡ marks))
