-- Where states stand in a family.
use Rattle.std.specs.Prelude.{◌<◌, ℕ, List, Contains, Option, Some, length}
use Rattle.rt_grid.specs.Tables.{size_of}
use Rattle.rt_sat.specs.declared.family.Family.{Family}
use Rattle.rt_sat.specs.declared.family.Home.{Home}
use Rattle.rt_sat.specs.declared.filling.Turned.{Turned}
use Rattle.rt_sat.specs.Hints.{grid_of}

-- there is such a place
pub record IsInFamily (family : Family) (home : Home) : Type 0 where
  pub class : home.class < length family.members.items
  pub place : home.index < size_of (grid_of family home.class)

-- there are those places
abbrev pub AreInFamily : Family → List (Option Home) → Type 0
AreInFamily family homes = (home : Home) → Contains homes (Some home) → IsInFamily family home

-- of so many places
abbrev pub AreTurnedIn : ℕ → List Turned → Type 0
AreTurnedIn size turned = (t : Turned) → Contains turned t → (t.forth < size) × (t.back < size)
