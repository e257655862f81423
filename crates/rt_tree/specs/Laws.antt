-- Laws of trees.
use Rattle.std.specs.Prelude.{◌≡◌, ℕ, ◌<◌, Option, Some, List, [], ◌∷◌, length}
use Rattle.std.specs.Option.{option_map, option_and_then}
use Rattle.rt_lines.specs.declared.label.Label.{Label}
use Rattle.rt_tree.specs.Trees.{Nodes, IsTree, AreSame, IsMinimal, IsBreadthFirst, step_of, node_at, marks_of, marks_from}

-- two minimal trees, numbered breadth first, with the same words and marks are one
abbrev pub OneTree : Type 0
OneTree =
    (a b : Nodes) → IsTree a → IsTree b → IsMinimal a → IsMinimal b → IsBreadthFirst a → IsBreadthFirst b → AreSame a b →
    a ≡ b

-- a deterministic machine: the state after a state by a label, and the marks of a state. The marks after a word; none where the
-- machine stops before its end
abbrev pub run : {S : Type 0} → (S → Label → Option S) → (S → ℕ × ℕ) → S → List Label → Option (ℕ × ℕ)
run step mark s [] = Some (mark s)
run step mark s (l ∷ w) = option_and_then (λ t. run step mark t w) (step s l)

-- the nodes have the marks and the steps of the states that they stand for
pub record StandFor {S : Type 0} (step : S → Label → Option S) (mark : S → ℕ × ℕ) (state : ℕ →
    S) (tree : Nodes) : Type 0 where
  pub marks : (n : ℕ) → n < length tree → marks_of (node_at tree n) ≡ mark (state n)
  pub steps : (n : ℕ) → n < length tree → (l : Label) → option_map state (step_of tree n l) ≡ step (state n) l

-- a tree whose nodes stand for states of a machine has the words and marks of the machine, from the root's state on
abbrev pub Unfolds : Type 0 → Type 0
Unfolds S =
    (step : S → Label → Option S) (mark : S → ℕ × ℕ) (state : ℕ → S) (tree : Nodes) →
    IsTree tree → StandFor step mark state tree →
    (w : List Label) → marks_from tree 0 w ≡ run step mark (state 0) w
