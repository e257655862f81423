-- The sketch of a scheme.
use Rattle.std.specs.Prelude.{◌≡◌, ◌↔◌, ℕ, ◌<◌, ◌⊎◌, Some, IsSome, List, []}
use Rattle.rt_lines.specs.declared.label.Label.{Label}
use Rattle.rt_lines.specs.declared.label.Label.TheVariants.{Load, Store}
use Rattle.rt_lines.specs.declared.variable.Base.TheVariants.{Proc}
use Rattle.rt_lines.specs.declared.variable.Dtv.{Dtv}
use Rattle.rt_lines.specs.declared.line.Line.{Line}
use Rattle.rt_lines.specs.declared.line.Line.TheVariants.{Var, Low, Up}
use Rattle.rt_lines.specs.Orders.{Below, IsAtOrBelow}
use Rattle.rt_rules.specs.Rules.{Derivable}
use Rattle.rt_loose.specs.Loose.{IsLoose}
use Rattle.rt_tree.specs.Trees.{Nodes, step_of, walk, marks_from, IsMinimal, IsBreadthFirst}

-- the least number of those below the count that is at or above all that a property has; the least of all, where it has none
pub record IsJoinOf (order : Below) (Has : ℕ → Type 0) (join : ℕ) : Type 0 where
  pub within : join < order.count
  pub above : (k : ℕ) → k < order.count → Has k → IsAtOrBelow order k join
  pub least : (u : ℕ) → u < order.count → ((k : ℕ) → k < order.count → Has k → IsAtOrBelow order k u) →
      IsAtOrBelow order join u

-- the greatest one that is at or below all
pub record IsMeetOf (order : Below) (Has : ℕ → Type 0) (meet : ℕ) : Type 0 where
  pub within : meet < order.count
  pub below : (k : ℕ) → k < order.count → Has k → IsAtOrBelow order meet k
  pub greatest : (u : ℕ) → u < order.count → ((k : ℕ) → k < order.count → Has k → IsAtOrBelow order u k) →
      IsAtOrBelow order u meet

-- a procedure with a word
abbrev pub of_procedure : ℕ → List Label → Dtv
of_procedure own w = record { base = Proc own; word = w }

-- the word is empty, or the lines derive that the procedure has it
abbrev pub IsAdmitted : Below → List Line → ℕ → List Label → Type 0
IsAdmitted order lines own w = (w ≡ []) ⊎ Derivable order lines (Var (of_procedure own w))

-- the marks of a variable: the join of its lower bounds and the meet of its upper bounds
pub record AreMarks (order : Below) (lines : List Line) (x : Dtv) (marks : ℕ × ℕ) : Type 0 where
  pub low : IsJoinOf order (λ k. IsLoose order lines (Low k x)) marks.0
  pub up : IsMeetOf order (λ k. IsLoose order lines (Up x k)) marks.1

-- the tree of a scheme's lines for its own procedure
pub record IsSketchOf (order : Below) (own : ℕ) (lines : List Line) (tree : Nodes) : Type 0 where
  pub words : (w : List Label) → IsSome (walk tree 0 w) ↔ IsAdmitted order lines own w
  pub marks : (w : List Label) (m : ℕ × ℕ) → marks_from tree 0 w ≡ Some m → AreMarks order lines (of_procedure own w) m
  pub minimal : IsMinimal tree
  pub numbered : IsBreadthFirst tree

-- the marks of all nodes are below the count
abbrev pub HasMarksBelow : ℕ → Nodes → Type 0
HasMarksBelow count tree = (w : List Label) (m : ℕ × ℕ) → marks_from tree 0 w ≡ Some m → (m.0 < count) × (m.1 < count)

-- where a node has both a load and a store, the two lead to one node
abbrev pub HasOneEnd : Nodes → Type 0
HasOneEnd tree = (n load store : ℕ) → step_of tree n Load ≡ Some load → step_of tree n Store ≡ Some store → load ≡ store
