-- Graphs as lists: for each node, which are the numbers below the length, the nodes that edges lead to.
use Rattle.std.specs.Prelude.{ℕ, ◌^◌, ◌<◌, List, [], length, Contains, slice_index_or}

-- the nodes that edges lead to from a node
abbrev pub successors : List (List ℕ) → ℕ → List ℕ
successors graph a = slice_index_or graph a []

-- an edge leads from the one node to the other
abbrev pub HasEdge : List (List ℕ) → ℕ → ℕ → Type 0
HasEdge graph a b = Contains (successors graph a) b

-- each edge leads to a node
abbrev pub AreEdges : List (List ℕ) → Type 0
AreEdges graph = (a b : ℕ) → HasEdge graph a b → b < length graph

-- each edge leads to a node, and 32 bits number them
pub record IsGraph (graph : List (List ℕ)) : Type 0 where
  pub edges : AreEdges graph
  pub numbered : length graph < 2 ^ 32
