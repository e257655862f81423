-- The tree of the classes of a tree's nodes: parts of the way to minimal trees.
use Rattle.std.specs.Prelude.{◌≡◌, ℕ, ◌+◌, suc, ◌<◌, ◌≤◌, ◌⊎◌, Option, Some, None, List, [], ◌∷◌, ◌++◌, length, slice_index, slice_index_or}
use Rattle.rt_tree.specs.Trees.{Node, Nodes, node_at, marks_of, ends_of, Stand}
use Rattle.rt_tree.specs.Pairs.{ArePaired}

-- a node of the quotient for the end of an edge: the number of the end's class
abbrev pub IsEndOf : List ℕ → List ℕ → ℕ → ℕ → Type 0
IsEndOf order class i j = (i < length order) × (slice_index order i ≡ slice_index class j)

-- a node with the marks and the labels of another, whose edges lead to the classes of its ends
pub record IsImage (order class : List ℕ) (image node : Node) : Type 0 where
  pub marks : marks_of image ≡ marks_of node
  pub edges : ArePaired (IsEndOf order class) image.edges node.edges

-- how many classes have no number
abbrev pub gaps : List (Option ℕ) → ℕ
gaps [] = 0
gaps (None ∷ numbers) = suc (gaps numbers)
gaps (Some n ∷ numbers) = gaps numbers

-- the classes by their numbers, and the number of each class that has one
pub record AreNumbers (number : List (Option ℕ)) (order : List ℕ) : Type 0 where
  pub filled : length order + gaps number ≡ length number
  pub there : (k : ℕ) → k < length order → slice_index_or number (slice_index order k) None ≡ Some k
  pub back : (c k : ℕ) → slice_index_or number c None ≡ Some k → (k < length order) × (slice_index order k ≡ c)

-- the number of a class is one that it has, or else the next
pub record IsNumberOf (old new : List ℕ) (class number : ℕ) : Type 0 where
  pub next : ((number < length old) × (new ≡ old)) ⊎ ((number ≡ length old) × (new ≡ old ++ class ∷ []))
  pub named : slice_index new number ≡ class

-- a list with none or more classes of nodes at its end
pub record Extends (class old new : List ℕ) : Type 0 where
  pub longer : length old ≤ length new
  pub front : (k : ℕ) → k < length old → slice_index new k ≡ slice_index old k
  pub named : (k : ℕ) → length old ≤ k → k < length new →
      (x : ℕ) × (x < length class) × (slice_index new k ≡ slice_index class x)

-- the nodes from number n on, of which those below the first count have stood before, and those below the last in the end
abbrev pub Stands : ℕ → ℕ → Nodes → ℕ → Type 0
Stands n before [] after = before ≡ after
Stands n before (node ∷ nodes) after =
    (n < before) × (mid : ℕ) × Stand before (ends_of node) mid × Stands (n + 1) mid nodes after

-- the first nodes of a quotient, of which so many classes have stood
pub record IsQuotientOf (tree : Nodes) (class order : List ℕ) (least : Nodes) : Type 0 where
  pub most : length least ≤ length order
  pub few : length order ≤ length tree
  pub some : 0 < length order
  pub root : slice_index order 0 ≡ slice_index class 0
  pub named : (k : ℕ) → k < length order → (x : ℕ) × (x < length tree) × (slice_index order k ≡ slice_index class x)
  pub one : (m n : ℕ) → m < length order → n < length order → slice_index order m ≡ slice_index order n → m ≡ n
  pub nodes : (k : ℕ) → k < length least → IsImage order class (node_at least k) (node_at tree (slice_index order k))
  pub stands : Stands 0 1 least (length order)

-- a tree whose nodes are the classes, numbered breadth first
abbrev pub IsQuotient : Nodes → List ℕ → Nodes → Type 0
IsQuotient tree class least = (order : List ℕ) × (length order ≡ length least) × IsQuotientOf tree class order least
