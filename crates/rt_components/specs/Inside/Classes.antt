-- Classes of nodes, numbered from 0, and the classes that edges lead to.
use Rattle.std.specs.Prelude.{◌≡◌, ◌≢◌, ℕ, ◌<◌, ◌≤◌, ◌⊎◌, ◌↔◌, List, length, Contains, slice_index}
use Rattle.std.specs.List.Sorted.{IsStrictlyIncreasing}
use Rattle.rt_components.specs.Graphs.{HasEdge}
use Rattle.rt_components.specs.Groups.{AreTogether, group_at}

-- Each node has a class, and each class a node. Two nodes have one class exactly if they are together. An edge leads to
-- a node, whose class has the same number or a lower one.
pub record AreClasses (graph : List (List ℕ)) (class : List ℕ) (count : ℕ) : Type 0 where
  pub each : length class ≡ length graph
  pub within : (a : ℕ) → a < length graph → slice_index class a < count
  pub some : (k : ℕ) → k < count → (a : ℕ) × (a < length graph) × (slice_index class a ≡ k)
  pub together : (a b : ℕ) → a < length graph → b < length graph → (slice_index class a ≡ slice_index class b) ↔
      AreTogether (HasEdge graph) a b
  pub down : (a b : ℕ) → HasEdge graph a b → (b < length graph) × (slice_index class b ≤ slice_index class a)

-- of nodes before one, those of each class, ascending
pub record AreMembers (class : List ℕ) (count upto : ℕ) (members : List (List ℕ)) : Type 0 where
  pub each : length members ≡ count
  pub found : (a : ℕ) → a < upto → Contains (group_at members (slice_index class a)) a
  pub only : (k a : ℕ) → Contains (group_at members k) a → (a < upto) × (slice_index class a ≡ k)
  pub ascending : (k : ℕ) → IsStrictlyIncreasing (group_at members k)

-- to those before, the other classes of some nodes were added
pub record AddsOthers (class : List ℕ) (k : ℕ) (nodes old new : List ℕ) : Type 0 where
  pub kept : (h : ℕ) → Contains old h → Contains new h
  pub found : (b : ℕ) → Contains nodes b → slice_index class b ≢ k → Contains new (slice_index class b)
  pub only : (h : ℕ) → Contains new h → Contains old h ⊎ ((b : ℕ) × Contains nodes b × (slice_index class b ≡ h) × (h ≢ k))

-- for each class, the other classes that edges of its members lead to, of nodes before one
pub record AreSuccessors (graph : List (List ℕ)) (class : List ℕ) (count upto : ℕ) (others : List (List ℕ)) : Type 0 where
  pub each : length others ≡ count
  pub found : (a b : ℕ) → a < upto → HasEdge graph a b → slice_index class b ≢ slice_index class a →
      Contains (group_at others (slice_index class a)) (slice_index class b)
  pub only : (k h : ℕ) → Contains (group_at others k) h →
      (a : ℕ) × (b : ℕ) × HasEdge graph a b × (slice_index class a ≡ k) ×
      (slice_index class b ≡ h) × (h ≢ k)
