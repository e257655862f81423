-- Which sites define each location.
use Rattle.std.specs.Prelude.{◌<◌, ◌↔◌, ℕ, ℤ, List, [], Contains, length, slice_index_or, unwrap_or}
use Rattle.std.specs.Map.{lookup}
use Rattle.std.specs.Ordering.{int_eq}
use Rattle.std.specs.List.Sorted.{IsStrictlyIncreasing}
use Rattle.rt_flow.specs.Bodies.{Body, Defines}

-- the sites that are noted at a location
abbrev pub sites_at : List (ℤ × List ℕ) → ℤ → List ℕ
sites_at groups loc = unwrap_or (lookup (int_eq loc) groups) []

-- the class of a location: the one that is noted at it, or that of locations that no site defines
abbrev pub class_at : List (ℤ × ℕ) → ℕ → ℤ → ℕ
class_at known none loc = unwrap_or (lookup (int_eq loc) known) none

-- the sites that define a location, ascending
pub record AreSitesOf (body : Body) (loc : ℤ) (sites : List ℕ) : Type 0 where
  pub ascending : IsStrictlyIncreasing sites
  pub defining : (k : ℕ) → Contains sites k ↔ Defines body k loc

-- for each location its class, and for each class the sites that define its locations
pub record AreClasses (body : Body) (known : List (ℤ × ℕ)) (none : ℕ) (classes : List (List ℕ)) : Type 0 where
  pub within : (loc : ℤ) → class_at known none loc < length classes
  pub sites : (loc : ℤ) → AreSitesOf body loc (slice_index_or classes (class_at known none loc) [])
