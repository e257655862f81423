-- The least of some numbers, by a tree in a list: node i has the lesser of nodes 2i and 2i + 1, and the leaf of number k is at count + k.
use Rattle.std.specs.Prelude.{◌≡◌, ◌≢◌, ℕ, ◌+◌, ◌*◌, ◌<◌, ◌≤◌, nat_lt, Bool, Option, Some, None, List, find, length, slice_index_or, if◌then◌else◌, false}
use Rattle.rt_base.specs.First.{entries}

-- the lesser of two numbers that there may be
abbrev pub lesser : Option ℕ → Option ℕ → Option ℕ
lesser None b = b
lesser (Some a) None = Some a
lesser (Some a) (Some b) = if nat_lt b a then Some b else Some a

-- whether a number is among them
abbrev pub has : List Bool → ℕ → Bool
has members k = slice_index_or members k false

-- the least of them
abbrev pub least_of : List Bool → Option ℕ
least_of members = find (has members) (entries (λ k. k) 0 (length members))

abbrev pub node_at : List (Option ℕ) → ℕ → Option ℕ
node_at tree i = slice_index_or tree i None

-- what the leaf of a number says
abbrev pub leaf_of : Bool → ℕ → Option ℕ
leaf_of member k = if member then Some k else None

-- the tree tells of these numbers, but maybe not at one node
pub record IsTreeBut (members : List Bool) (tree : List (Option ℕ)) (place : ℕ) : Type 0 where
  pub room : length tree ≡ 2 * length members
  pub inner : (i : ℕ) → 1 ≤ i → i < length members → i ≢ place → node_at tree i ≡ lesser (node_at tree (2 * i)) (node_at tree (2 * i + 1))
  pub leaves : (k : ℕ) → k < length members → node_at tree (length members + k) ≡ leaf_of (has members k) k

-- the tree tells of these numbers, where node 0 is none
abbrev pub IsTree : List Bool → List (Option ℕ) → Type 0
IsTree members tree = IsTreeBut members tree 0
