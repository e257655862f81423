-- Arcs between numbered variables, of lines and pushed, and what they lead to.
use Rattle.std.specs.Prelude.{◌≡◌, ℕ, ◌⊎◌, List, [], Contains, Bool, true, false, Option, Some, None, length, slice_index_or}
use Rattle.rt_components.specs.Groups.{Reaches}
use Rattle.rt_outline.specs.declared.arc.Arc.{Arc}

-- an arc of a line, or pushed, leads from one number to another
abbrev pub HasArc : List (List Arc) → ℕ → ℕ → Option ℕ → Type 0
HasArc arcs v w line = Contains (slice_index_or arcs v []) (record { to = w; line = line })

-- an arc may be followed: one of a line that stands, or where pushed ones may be a pushed one
abbrev pub allows : List Bool → Bool → Option ℕ → Bool
allows stands pushed None = pushed
allows stands pushed (Some i) = slice_index_or stands i false

-- an arc that may be followed leads from one number to another
abbrev pub Leads : List (List Arc) → List Bool → Bool → ℕ → ℕ → Type 0
Leads arcs stands pushed v w = (line : Option ℕ) × HasArc arcs v w line × (allows stands pushed line ≡ true)

-- arcs, or none, lead from one of the numbers to one of the others
abbrev pub MayLead : (ℕ → ℕ → Type 0) → List ℕ → List ℕ → Type 0
MayLead Edge sources targets = (s : ℕ) × (t : ℕ) × Contains sources s × Reaches Edge s t × Contains targets t

-- one or more arcs lead from one of the numbers to one of the others
abbrev pub AreLed : (ℕ → ℕ → Type 0) → List ℕ → List ℕ → Type 0
AreLed Edge sources targets = (s : ℕ) × (v : ℕ) × (t : ℕ) × Contains sources s × Edge s v × Reaches Edge v t ×
    Contains targets t

-- an arc more
pub record IsAdded (from : ℕ) (arc : Arc) (old new : List (List Arc)) : Type 0 where
  pub each : length new ≡ length old
  pub kept : (v w : ℕ) (line : Option ℕ) → HasArc old v w line → HasArc new v w line
  pub added : HasArc new from arc.to arc.line
  pub only : (v w : ℕ) (line : Option ℕ) → HasArc new v w line →
      HasArc old v w line ⊎ ((v ≡ from) × (w ≡ arc.to) × (line ≡ arc.line))

-- the same arcs the other way
abbrev pub AreTurned : List (List Arc) → List (List Arc) → Type 0
AreTurned arcs back = (v w : ℕ) (line : Option ℕ) → (HasArc arcs v w line → HasArc back w v line) ×
    (HasArc back w v line → HasArc arcs v w line)

-- all that is reached from those that were found is found
pub record IsSpread (Edge : ℕ → ℕ → Type 0) (old new : List ℕ) : Type 0 where
  pub all : (v w : ℕ) → Contains old v → Reaches Edge v w → Contains new w
  pub only : (w : ℕ) → Contains new w → (v : ℕ) × Contains old v × Reaches Edge v w

-- the numbers are all that is reached from one
abbrev pub IsReached : (ℕ → ℕ → Type 0) → ℕ → List ℕ → Type 0
IsReached Edge v found = (w : ℕ) → (Contains found w → Reaches Edge v w) × (Reaches Edge v w → Contains found w)
