-- The places of groups: those of their members, and those that edges lead to.
use Rattle.std.specs.Prelude.{◌≡◌, ◌≢◌, ℕ, ◌<◌, ◌⊎◌, ◌↔◌, List, length, Contains, slice_index}
use Rattle.rt_components.specs.Graphs.{successors}
use Rattle.rt_components.specs.Groups.{group_at}

-- the members were given a place, and other numbers have theirs still
pub record GivesPlace (members : List ℕ) (place : ℕ) (old new : List ℕ) : Type 0 where
  pub each : length new ≡ length old
  pub given : (p : ℕ) → Contains members p → slice_index new p ≡ place
  pub others : (p : ℕ) → (Contains members p → ⊥) → slice_index new p ≡ slice_index old p

-- each number below a count has a place, and members of the groups before one have that of their group
pub record ArePlaces (groups : List (List ℕ)) (count upto : ℕ) (places : List ℕ) : Type 0 where
  pub each : length places ≡ count
  pub members : (g p : ℕ) → g < upto → Contains (group_at groups g) p → slice_index places p ≡ g

-- one of the nodes has this place
abbrev pub HavePlace : List ℕ → List ℕ → ℕ → Type 0
HavePlace places nodes c = (q : ℕ) × Contains nodes q × (slice_index places q ≡ c)

-- an edge leads from one of the nodes to one that has this place
abbrev pub LeadToPlace : List (List ℕ) → List ℕ → List ℕ → ℕ → Type 0
LeadToPlace graph places nodes c = (p : ℕ) × Contains nodes p × HavePlace places (successors graph p) c

-- to those before, the places of some nodes were added, but one place
abbrev pub AddsPlaces : List ℕ → ℕ → List ℕ → List ℕ → List ℕ → Type 0
AddsPlaces places own nodes old new = (c : ℕ) → Contains new c ↔ (Contains old c ⊎ ((c ≢ own) × HavePlace places nodes c))

-- the places that edges of nodes lead to, but one place
abbrev pub ArePlacesOf : List (List ℕ) → List ℕ → ℕ → List ℕ → List ℕ → Type 0
ArePlacesOf graph places own nodes found = (c : ℕ) → Contains found c ↔ ((c ≢ own) × LeadToPlace graph places nodes c)
