-- Two trees as one, and classes of its nodes: parts of the way to comparing trees.
use Rattle.std.specs.Prelude.{◌≡◌, ℕ, ◌+◌, ◌<◌, nat_lt, cond, if◌then◌else◌, ◌==◌, min, max, Some, List, [], ◌∷◌, ◌++◌}
use Rattle.std.specs.Prelude.{All, map, length, slice_get, slice_index}
use Rattle.rt_lines.specs.declared.label.Label.{Label}
use Rattle.rt_tree.specs.declared.equality.Found.{Found}
use Rattle.rt_tree.specs.declared.equality.Found.TheVariants.{Same, Unlike, Apart}
use Rattle.rt_tree.specs.Trees.{Node, Nodes, node_at, marks_of, AreLike}

abbrev pub shifted_edges : ℕ → List (Label × ℕ) → List (Label × ℕ)
shifted_edges k [] = []
shifted_edges k (edge ∷ edges) = (edge.0, k + edge.1) ∷ shifted_edges k edges

abbrev pub shifted : ℕ → Node → Node
shifted k node = record { low = node.low; up = node.up; edges = shifted_edges k node.edges }

-- the nodes of both, the second tree's after the first's
abbrev pub both : Nodes → Nodes → Nodes
both a b = a ++ map (shifted (length a)) b

-- the number of the root of the tree that a node is of, where the first tree has so many nodes
abbrev pub root_of : ℕ → ℕ → ℕ
root_of count x = cond (nat_lt x count) 0 count

-- equal labels, and ends that are related, one by one
abbrev pub ArePaired : (ℕ → ℕ → Type 0) → List (Label × ℕ) → List (Label × ℕ) → Type 0
ArePaired R [] [] = Unit {0}
ArePaired R [] (y ∷ ys) = ⊥
ArePaired R (x ∷ xs) [] = ⊥
ArePaired R (x ∷ xs) (y ∷ ys) = (x.0 ≡ y.0) × R x.1 y.1 × ArePaired R xs ys

abbrev pub InOneClass : List ℕ → ℕ → ℕ → Type 0
InOneClass class m n = slice_index class m ≡ slice_index class n

-- what was found of two lists of edges, whose ends count from i and from j on
abbrev pub IsFound : List ℕ → List (Label × ℕ) → ℕ → List (Label × ℕ) → ℕ → Found → Type 0
IsFound class xs i ys j Same = ArePaired (λ m n. InOneClass class (i + m) (j + n)) xs ys
IsFound class xs i ys j Unlike = map (λ (e : Label × ℕ). e.0) xs ≡ map (λ (e : Label × ℕ). e.0) ys → ⊥
IsFound class xs i ys j (Apart m n) =
    (k : ℕ) × (e : Label × ℕ) × (f : Label × ℕ) × (slice_get xs k ≡ Some e) × (slice_get ys k ≡ Some f) ×
    (m ≡ i + e.1) × (n ≡ j + f.1) × (InOneClass class m n → ⊥)

-- equal marks and labels, and ends in one class
pub record AreAlikeIn (class : List ℕ) (tree : Nodes) (x y : ℕ) : Type 0 where
  pub marks : marks_of (node_at tree x) ≡ marks_of (node_at tree y)
  pub edges : ArePaired (InOneClass class) (node_at tree x).edges (node_at tree y).edges

-- what was found of two nodes
abbrev pub IsFoundOf : List ℕ → Nodes → ℕ → ℕ → Found → Type 0
IsFoundOf class tree x y Same = AreAlikeIn class tree x y
IsFoundOf class tree x y Unlike = AreLike tree x y → ⊥
IsFoundOf class tree x y (Apart m n) =
    (m < length tree) × (n < length tree) × (AreLike tree x y → AreLike tree m n) × (InOneClass class m n → ⊥)

-- the two are alike if the roots are, node 0 and another
abbrev pub Follows : Nodes → ℕ → ℕ → ℕ → Type 0
Follows tree root x y = AreLike tree 0 root → AreLike tree x y

-- a class for each node, named by a node that is alike if the roots are
pub record AreClasses (tree : Nodes) (root : ℕ) (class : List ℕ) : Type 0 where
  pub each : length class ≡ length tree
  pub within : (x : ℕ) → x < length tree → slice_index class x < length tree
  pub sound : (x : ℕ) → x < length tree → Follows tree root x (slice_index class x)

-- the roots are in one class, and each node is like the one that names its class
pub record AreClosed (tree : Nodes) (root : ℕ) (class : List ℕ) : Type 0 where
  pub roots : InOneClass class 0 root
  pub nodes : (x : ℕ) → x < length tree → AreAlikeIn class tree x (slice_index class x)

-- what was found of all nodes
abbrev pub IsFoundOfAll : List ℕ → Nodes → ℕ → Found → Type 0
IsFoundOfAll class tree root Same = AreClosed tree root class
IsFoundOfAll class tree root Unlike = AreLike tree 0 root → ⊥
IsFoundOfAll class tree root (Apart m n) =
    (m < length tree) × (n < length tree) × Follows tree root m n × (InOneClass class m n → ⊥)

-- a class, where the greater of two is renamed into the lesser
abbrev pub renamed_class : ℕ → ℕ → ℕ → ℕ
renamed_class a b c = if c == max a b then min a b else c

-- pairs of nodes that are alike if the roots are
abbrev pub AreToFollow : Nodes → ℕ → List (ℕ × ℕ) → Type 0
AreToFollow tree root pairs =
    All (λ (pair : ℕ × ℕ). (pair.0 < length tree) × (pair.1 < length tree) × Follows tree root pair.0 pair.1) pairs
