-- Arcs between numbers, and what they lead to.
use Rattle.std.specs.Prelude.{◌≡◌, ℕ, ◌<◌, ◌⊎◌, List, [], Contains, length, slice_index_or}
use Rattle.rt_components.specs.Groups.{Reaches}

-- the second number is in the row of the first
abbrev pub IsInRow : List (List ℕ) → ℕ → ℕ → Type 0
IsInRow rows v w = Contains (slice_index_or rows v []) w

-- the numbers are all that is reached from one
abbrev pub IsReached : (ℕ → ℕ → Type 0) → ℕ → List ℕ → Type 0
IsReached Edge v found = (w : ℕ) → (Contains found w → Reaches Edge v w) × (Reaches Edge v w → Contains found w)

-- all that is reached from those that were found is found
pub record IsSpread (Edge : ℕ → ℕ → Type 0) (old new : List ℕ) : Type 0 where
  pub all : (v w : ℕ) → Contains old v → Reaches Edge v w → Contains new w
  pub only : (w : ℕ) → Contains new w → (v : ℕ) × Contains old v × Reaches Edge v w

-- the row of each number below a count has all that is reached from it
pub record AreRows (Edge : ℕ → ℕ → Type 0) (count : ℕ) (rows : List (List ℕ)) : Type 0 where
  pub each : length rows ≡ count
  pub row : (v : ℕ) → v < count → IsReached Edge v (slice_index_or rows v [])

-- an arc more
pub record IsAdded (from to : ℕ) (old new : List (List ℕ)) : Type 0 where
  pub each : length new ≡ length old
  pub kept : (v w : ℕ) → IsInRow old v w → IsInRow new v w
  pub added : IsInRow new from to
  pub only : (v w : ℕ) → IsInRow new v w → IsInRow old v w ⊎ ((v ≡ from) × (w ≡ to))

-- arcs more, each of a pair of which something holds
pub record AreMore (P : ℕ → ℕ → Type 0) (old new : List (List ℕ)) : Type 0 where
  pub each : length new ≡ length old
  pub kept : (v w : ℕ) → IsInRow old v w → IsInRow new v w
  pub all : (v w : ℕ) → P v w → IsInRow new v w
  pub only : (v w : ℕ) → IsInRow new v w → IsInRow old v w ⊎ P v w

-- arcs lead from numbers below the count to such
abbrev pub AreWithin : List (List ℕ) → Type 0
AreWithin arcs = (v w : ℕ) → IsInRow arcs v w → w < length arcs

-- the second number is in the row of the first exactly if the first is in the other row of the second
pub record AreTurned (rows back : List (List ℕ)) : Type 0 where
  pub each : length back ≡ length rows
  pub to : (v w : ℕ) → IsInRow rows v w → IsInRow back w v
  pub from : (v w : ℕ) → IsInRow back w v → IsInRow rows v w
