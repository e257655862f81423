-- Graphs of what variables can do, as contracts see them.
use Rattle.std.specs.Prelude.{◌≡◌, ℕ, ◌<◌, Bool, ◌&&◌, nat_eq, List, [], ◌∷◌, Option, Some, None, IsSome}
use Rattle.std.specs.Map.{lookup}
use Rattle.rt_lines.specs.declared.label.Label.{Label}
use Rattle.rt_lines.specs.declared.label.Label.TheVariants.{Load, Store}
use Rattle.rt_lines.specs.declared.variable.Base.{Base}
use Rattle.rt_lines.specs.declared.variable.Dtv.{Dtv}
use Rattle.rt_lines.specs.Equality.{base_eq, label_eq}

-- nodes are the numbers below a count; the nodes of bases, and for a node and a label the next node
pub record Graph : Type 0 where
  pub count : ℕ
  pub bases : List (Base × ℕ)
  pub edges : List ((ℕ × Label) × ℕ)

-- two nodes with their labels are equal
abbrev pub letter_eq : ℕ × Label → ℕ × Label → Bool
letter_eq p q = nat_eq p.0 q.0 && label_eq p.1 q.1

-- a base alone, as a variable
abbrev pub bare : Base → Dtv
bare b = record { base = b; word = [] }

-- the node of a base
abbrev pub base_of : Graph → Base → Option ℕ
base_of graph b = lookup (base_eq b) graph.bases

-- the node after a node, by a label
abbrev pub step_of : Graph → ℕ → Label → Option ℕ
step_of graph n l = lookup (letter_eq (n, l)) graph.edges

-- where a word leads by the edges
abbrev pub walk : List ((ℕ × Label) × ℕ) → Option ℕ → List Label → Option ℕ
walk edges None w = None
walk edges (Some n) [] = Some n
walk edges (Some n) (l ∷ w) = walk edges (lookup (letter_eq (n, l)) edges) w

-- the node of a variable: its base's, and a step for each letter of its word
abbrev pub node_of : Graph → Dtv → Option ℕ
node_of graph x = walk graph.edges (base_of graph x.base) x.word

-- the variable has a node
abbrev pub Has : Graph → Dtv → Type 0
Has graph x = (n : ℕ) × (node_of graph x ≡ Some n)

-- each variable that has a node keeps it
abbrev pub IsKept : Graph → Graph → Type 0
IsKept old new = (x : Dtv) (n : ℕ) → node_of old x ≡ Some n → node_of new x ≡ Some n

-- what is in the graph is below the count, and each node is the node of some variable
pub record IsGraph (graph : Graph) : Type 0 where
  pub bases_in : (b : Base) (n : ℕ) → base_of graph b ≡ Some n → n < graph.count
  pub edges_in : (m : ℕ) (l : Label) (n : ℕ) → step_of graph m l ≡ Some n → (m < graph.count) × (n < graph.count)
  pub reached : (n : ℕ) → n < graph.count → (x : Dtv) × (node_of graph x ≡ Some n)

-- no two variables have one node
abbrev pub IsSingle : Graph → Type 0
IsSingle graph = (x y : Dtv) (n : ℕ) → node_of graph x ≡ Some n → node_of graph y ≡ Some n → x ≡ y

-- a graph in which no two variables have one node
pub record IsTree (graph : Graph) : Type 0 where
  pub whole : IsGraph graph
  pub single : IsSingle graph

-- a graph in which the load and the store of one node are one node
pub record IsShape (graph : Graph) : Type 0 where
  pub whole : IsGraph graph
  pub pointer : (m i j : ℕ) → step_of graph m Load ≡ Some i → step_of graph m Store ≡ Some j → i ≡ j

-- a node has a load and a store
abbrev pub IsReadWrite : Graph → ℕ → Type 0
IsReadWrite graph n = IsSome (step_of graph n Load) × IsSome (step_of graph n Store)
