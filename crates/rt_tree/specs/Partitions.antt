-- Classes of nodes that are alike, and rows of numbers that tell them apart: parts of the way to minimal trees.
use Rattle.std.specs.Prelude.{◌≡◌, ℕ, ◌+◌, ◌-◌, ◌<◌, ◌≤◌, ◌^◌, All, ℤ, pos, negsuc, Option, List, [], ◌∷◌, length, slice_index}
use Rattle.std.specs.BTreeMap.{BTreeMap, get_by}
use Rattle.std.specs.Ordering.{nat_cmp}
use Rattle.std.specs.Cmp.Lexicographic.{slice_cmp}
use Rattle.std.specs.Prelude.{Vec}
use Rattle.rt_lines.specs.declared.label.Label.{Label}
use Rattle.rt_tree.specs.Kinds.{rank_of, number_of}
use Rattle.rt_tree.specs.Trees.{Node, Nodes, node_at, AreLike, IsNode}
use Rattle.rt_tree.specs.Pairs.{InOneClass, AreAlikeIn}

-- nodes numbered by 32 bits, whose edges lead to nodes
pub record IsGraph (nodes : Nodes) : Type 0 where
  pub numbered : length nodes < 2 ^ 32
  pub each : All (IsNode (length nodes)) nodes

-- each node's class is the first node that has the same words and marks after it
pub record AreClassesOf (tree : Nodes) (class : List ℕ) : Type 0 where
  pub each : length class ≡ length tree
  pub like : (x : ℕ) → x < length tree → AreLike tree x (slice_index class x)
  pub first : (x y : ℕ) → x < length tree → y < length tree → AreLike tree x y → slice_index class x ≤ y

-- two nodes are of one class, and have equal marks, labels and classes of ends
pub record AreTwins (class : List ℕ) (tree : Nodes) (x y : ℕ) : Type 0 where
  pub one : InOneClass class x y
  pub alike : AreAlikeIn class tree x y

-- classes that are finer by one label: each node's class is the first of its twins
pub record AreFinerClasses (tree : Nodes) (class finer : List ℕ) : Type 0 where
  pub each : length finer ≡ length tree
  pub within : (x : ℕ) → x < length tree → slice_index finer x < length tree
  pub twin : (x : ℕ) → x < length tree → AreTwins class tree x (slice_index finer x)
  pub first : (x y : ℕ) → x < length tree → y < length tree → AreTwins class tree x y → slice_index finer x ≤ y

-- classes named by their first nodes, of which nodes that are alike have one
pub record AreCoarseClasses (tree : Nodes) (class : List ℕ) : Type 0 where
  pub each : length class ≡ length tree
  pub first : (x y : ℕ) → x < length tree → y < length tree → InOneClass class x y → slice_index class x ≤ y
  pub told : (x y : ℕ) → x < length tree → y < length tree → AreLike tree x y → InOneClass class x y

-- classes of nodes, of which nodes that are alike have one
abbrev pub AreToldNodes : Nodes → List ℕ → Type 0
AreToldNodes nodes class =
    (x y : ℕ) → x < length nodes → y < length nodes → AreLike nodes x y → slice_index class x ≡ slice_index class y

-- a number of 32 bits with a sign, counted from the least on
abbrev pub slot_of : ℤ → ℕ
slot_of (pos n) = 2147483648 + n
slot_of (negsuc n) = 2147483647 - n

-- for each edge the kind and the number of its label and the class of its end
abbrev pub edges_row : List ℕ → List (Label × ℕ) → List ℕ
edges_row class [] = []
edges_row class (edge ∷ edges) = rank_of edge.0 ∷ slot_of (number_of edge.0) ∷ slice_index class edge.1 ∷ edges_row class edges

-- a node's row: its marks, its class and its edges
abbrev pub row_of : List ℕ → ℕ → Node → List ℕ
row_of class own node = node.low ∷ node.up ∷ own ∷ edges_row class node.edges

abbrev pub row_at : List ℕ → Nodes → ℕ → List ℕ
row_at class tree x = row_of class (slice_index class x) (node_at tree x)

-- what a map of rows has at a row
abbrev pub number_at : {Y : Type 0} → BTreeMap (Vec ℕ Y) ℕ → List ℕ → Option ℕ
number_at rows row = get_by (λ k. slice_cmp nat_cmp row k.items) rows
