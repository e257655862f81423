-- Numbers of what pairs lead between both ways.
use Rattle.std.specs.Prelude.{◌≡◌, ℕ, ◌<◌, ◌⊎◌, ◌↔◌, List, Contains, Bool, true, length, slice_index_or}
use Rattle.rt_components.specs.Graphs.{HasEdge}
use Rattle.rt_components.specs.Groups.{AreTogether, IsAmongFirst, group_at}
use Rattle.rt_outline.specs.declared.arc.Arc.{Arc}
use Rattle.rt_outline.specs.Arcs.{allows}

-- numbers of so many nodes, equal exactly where edges lead both ways
pub record AreTogetherBy (Edge : ℕ → ℕ → Type 0) (count : ℕ) (numbers : List ℕ) : Type 0 where
  pub each : length numbers ≡ count
  pub equal : (i j : ℕ) → i < count → j < count →
      (slice_index_or numbers i 0 ≡ slice_index_or numbers j 0) ↔ AreTogether Edge i j

-- the graph has so many nodes, and its edges are the pairs
pub record IsGraphOf (pairs : List (ℕ × ℕ)) (count : ℕ) (graph : List (List ℕ)) : Type 0 where
  pub each : length graph ≡ count
  pub all : (v w : ℕ) → Contains pairs (v, w) → HasEdge graph v w
  pub only : (v w : ℕ) → HasEdge graph v w → Contains pairs (v, w)

-- one of the pairs leads from one number to another
abbrev pub HasPair : List (ℕ × ℕ) → ℕ → ℕ → Type 0
HasPair pairs v w = Contains pairs (v, w)

-- the number of each member is written, and nothing else
pub record IsFilled (group : List ℕ) (k : ℕ) (old new : List ℕ) : Type 0 where
  pub each : length new ≡ length old
  pub set : (a : ℕ) → Contains group a → slice_index_or new a 0 ≡ k
  pub either : (a : ℕ) → (Contains group a × (slice_index_or new a 0 ≡ k)) ⊎ (slice_index_or new a 0 ≡ slice_index_or old a 0)

-- each member of one of the first groups has the number of a group that it is in
pub record AreGroupNumbers (count : ℕ) (groups : List (List ℕ)) (k : ℕ) (numbers : List ℕ) : Type 0 where
  pub each : length numbers ≡ count
  pub member : (a : ℕ) → IsAmongFirst groups k a → Contains (group_at groups (slice_index_or numbers a 0)) a

-- the pairs are those of which something holds, of first numbers below one
pub record ArePairsBelow (Edge : ℕ → ℕ → Type 0) (count : ℕ) (pairs : List (ℕ × ℕ)) : Type 0 where
  pub all : (v w : ℕ) → v < count → Edge v w → Contains pairs (v, w)
  pub only : (v w : ℕ) → Contains pairs (v, w) → Edge v w

-- pairs of a node and all of which something holds are added
pub record HasMorePairs (node : ℕ) (P : ℕ → Type 0) (old new : List (ℕ × ℕ)) : Type 0 where
  pub kept : (v w : ℕ) → Contains old (v, w) → Contains new (v, w)
  pub all : (w : ℕ) → P w → Contains new (node, w)
  pub only : (v w : ℕ) → Contains new (v, w) → Contains old (v, w) ⊎ ((v ≡ node) × P w)

-- an arc of the list that may be followed leads to the number
pub record IsOpenTo (stands : List Bool) (arcs : List Arc) (w : ℕ) : Type 0 where
  pub arc : Arc
  pub listed : Contains arcs arc
  pub to : arc.to ≡ w
  pub is_open : allows stands true arc.line ≡ true
