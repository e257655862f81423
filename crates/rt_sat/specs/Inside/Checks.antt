-- What tables of classes show of edges: where a state stands, that rows have all ways, and that what they have are ways.
use Rattle.std.specs.Prelude.{◌≡◌, ℕ, ◌+◌, ◌*◌, ◌<◌, ◌≤◌, List, Bool, false, cond, not, Option, Some, None}
use Rattle.std.specs.Prelude.{length, nat_eq, slice_get, slice_index_or}
use Rattle.rt_grid.specs.Tables.{count_at, row_of, Holds}
use Rattle.rt_sat.specs.declared.state.State.{State}
use Rattle.rt_sat.specs.declared.state.Edge.{Edge}
use Rattle.rt_sat.specs.declared.family.Family.{Family}
use Rattle.rt_sat.specs.declared.family.Home.{Home}
use Rattle.rt_sat.specs.Counts.{digit_of}
use Rattle.rt_sat.specs.Hints.{grid_of, members_of, state_at}
use Rattle.rt_sat.specs.Searches.{Walk}

abbrev pub is_number : ℕ → Option ℕ → Bool
is_number v (Some w) = nat_eq w v
is_number v None = false

-- where a state stands, by where its variable is noted
abbrev pub home_at : Family → State → Option Home → Option Home
home_at family s (Some h) =
    cond (is_number s.variable (slice_get (members_of family h.class) h.index))
    (Some (record { class = h.class; index = 2 * h.index + digit_of s.contra })) None
home_at family s None = None

-- where a state stands, if its variable is a member of a class
abbrev pub home_of : Family → State → Option Home
home_of family s = home_at family s (slice_index_or family.homes.items s.variable None)

-- the row of a place
abbrev pub row_at : Family → Home → List ℕ
row_at family home = row_of (grid_of family home.class).rows home.index

-- the state stands in the class of a place, in whose row its count is no greater
pub record IsNear (family : Family) (home : Home) (t : State) (k : ℕ) : Type 0 where
  pub to : Home
  pub stands : home_of family t ≡ Some to
  pub class : to.class ≡ home.class
  pub known : count_at (row_at family home) to.index < 255
  pub within : count_at (row_at family home) to.index ≤ k

-- no way along edges from a state of a class leaves the class, or is shorter than the row of the state says
abbrev pub AreComplete : Family → List Edge → Type 0
AreComplete family edges = (s t : State) (k : ℕ) (home : Home) → home_of family s ≡ Some home → Walk edges s t k → IsNear family home t k

-- a row has the ways of another one, with counts that are no greater than that of a step before them
abbrev pub TakesIn : List ℕ → List ℕ → ℕ → Type 0
TakesIn row by count = (j : ℕ) → count_at by j < 255 → (count_at row j < 255) × (count_at row j ≤ count + count_at by j)

-- the place of a member's state
abbrev pub place_of : ℕ → Bool → ℕ
place_of index contra = 2 * index + digit_of contra

-- the row of a member's state knows of the state itself, and has the ways of the state that is turned round
pub record HasTurn (rows : List (List ℕ)) (index : ℕ) (contra : Bool) : Type 0 where
  pub stays : count_at (row_of rows (place_of index contra)) (place_of index contra) ≡ 0
  pub turns : TakesIn (row_of rows (place_of index contra)) (row_of rows (place_of index (not contra))) 1

-- the rows of so many members have their turns
abbrev pub HasTurns : List (List ℕ) → ℕ → Type 0
HasTurns rows count = (index : ℕ) → index < count → (contra : Bool) → HasTurn rows index contra

-- all rows of a family have their turns
abbrev pub AreTurning : Family → Type 0
AreTurning family = (class : ℕ) → class < length family.members.items →
    HasTurns (grid_of family class).rows (length (members_of family class))

-- the row of the place has the ways from the edge's end, which stands in the same class
pub record HasStep (family : Family) (home : Home) (e : Edge) : Type 0 where
  pub to : Home
  pub stands : home_of family e.to ≡ Some to
  pub class : to.class ≡ home.class
  pub takes : TakesIn (row_at family home) (row_at family to) e.count

-- the row of the edge's start, if it stands in a class, has the ways from its end
abbrev pub HasEdge : Family → Edge → Type 0
HasEdge family e = (home : Home) → home_of family e.from ≡ Some home → HasStep family home e

-- between places of a class there is a way along edges
abbrev pub IsWalked : List Edge → List ℕ → ℕ → ℕ → ℕ → Type 0
IsWalked edges members i j k = Walk edges (state_at members i) (state_at members j) k

-- what the grids say are ways along edges
abbrev pub AreWalked : Family → List Edge → Type 0
AreWalked family edges = (class : ℕ) → class < length family.members.items →
    Holds (IsWalked edges (members_of family class)) (grid_of family class)
