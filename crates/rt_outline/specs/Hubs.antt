-- Hubs: nodes with load and store below those that may have a common lower variable.
use Rattle.std.specs.Prelude.{◌≡◌, ◌⊎◌, ℕ, ◌<◌, ◌++◌, List, Bool, true, false, cond, Option, Some, None, slice_get, slice_index_or}
use Rattle.std.specs.Map.{lookup}
use Rattle.rt_lines.specs.declared.label.Label.{Label}
use Rattle.rt_lines.specs.declared.label.Label.TheVariants.{Load, Store, In, Out, Field}
use Rattle.rt_components.specs.Groups.{Reaches}
use Rattle.rt_shape.specs.Graphs.{letter_eq}
use Rattle.rt_outline.specs.declared.arc.Arc.{Arc}
use Rattle.rt_outline.specs.Arcs.{HasArc}
use Rattle.rt_outline.specs.Frames.{Origins, IsMade}

-- the node has a load and a store
abbrev pub HasAccess : Origins → ℕ → Type 0
HasAccess origins n = ((v : ℕ) × IsMade origins v n Load) × ((v : ℕ) × IsMade origins v n Store)

-- a node with a load and a store, from which arcs lead to one
abbrev pub HasLowest : Origins → List (List Arc) → ℕ → Type 0
HasLowest origins arcs n = (h : ℕ) × HasAccess origins h × Reaches (λ (v : ℕ) (w : ℕ). (line : Option ℕ) × HasArc arcs v w line) h n

-- a node that has a load and a store, or that is before another one and can be read and written through
abbrev pub IsLower : Origins → List Bool → ℕ → ℕ → Type 0
IsLower origins flips n v = HasAccess origins v ⊎ (v < n × (slice_index_or flips v false ≡ true))

-- an arc leads to the node from such a one
abbrev pub HasLower : Origins → List (List Arc) → List Bool → ℕ → Type 0
HasLower origins arcs flips n = (v : ℕ) × IsLower origins flips n v × ((line : Option ℕ) × HasArc arcs v n line)

-- one letter for those of pointers, where a variable can be read and written through
abbrev pub common_of : Bool → Label → Label
common_of flips (In l) = In l
common_of flips (Out n) = Out n
common_of flips Load = Load
common_of flips Store = cond flips Load Store
common_of flips (Field w k) = Field w k

-- the class of what a node is made of, with its letter
abbrev pub key_by : List Bool → ℕ → Label → Option ℕ → Option (ℕ × Label)
key_by flips p l None = None
key_by flips p l (Some class) = Some (class, common_of (slice_index_or flips p false) l)

abbrev pub key_from : List (Option ℕ) → List Bool → Option (Option (ℕ × Label)) → Option (ℕ × Label)
key_from classes flips None = None
key_from classes flips (Some None) = None
key_from classes flips (Some (Some origin)) = key_by flips origin.0 origin.1 (slice_index_or classes origin.0 None)

-- the key of a node's hub
abbrev pub key_of : Origins → List (Option ℕ) → List Bool → ℕ → Option (ℕ × Label)
key_of origins classes flips n = key_from classes flips (slice_get origins n)

-- each hub has a load and a store
abbrev pub AreHubs : Origins → List ((ℕ × Label) × ℕ) → Type 0
AreHubs origins hubs = (key : ℕ × Label) (hub : ℕ) → lookup (letter_eq key) hubs ≡ Some hub → HasAccess origins hub

-- hubs stay those of their keys
abbrev pub AreHubsKept : List ((ℕ × Label) × ℕ) → List ((ℕ × Label) × ℕ) → Type 0
AreHubsKept old new = (key : ℕ × Label) (hub : ℕ) → lookup (letter_eq key) old ≡ Some hub →
    lookup (letter_eq key) new ≡ Some hub

-- nodes with more behind them, and arcs with more
pub record IsGrownBy (old : Origins) (arcs : List (List Arc)) (new : Origins) (next : List (List Arc)) : Type 0 where
  pub more : Origins
  pub behind : new ≡ old ++ more
  pub kept : (v w : ℕ) (line : Option ℕ) → HasArc arcs v w line → HasArc next v w line
  pub lines : (v w i : ℕ) → HasArc next v w (Some i) → HasArc arcs v w (Some i)

-- an arc leads to the node from the hub of its key; without a key it has a load and a store itself
pub record HasHubAt (origins : Origins) (arcs : List (List Arc)) (classes : List (Option ℕ)) (flips : List Bool)
    (hubs : List ((ℕ × Label) × ℕ)) (n : ℕ) : Type 0 where
  pub hub : (key : ℕ × Label) → key_of origins classes flips n ≡ Some key →
      (hub : ℕ) × (lookup (letter_eq key) hubs ≡ Some hub) × HasArc arcs hub n None
  pub own : key_of origins classes flips n ≡ None → HasAccess origins n

-- of each node that can be read and written through
abbrev pub HaveHubs : Origins → List (List Arc) → List (Option ℕ) → List Bool → Type 0
HaveHubs origins arcs classes flips = (hubs : List ((ℕ × Label) × ℕ)) × AreHubs origins hubs ×
    ((n : ℕ) → slice_get flips n ≡ Some true → HasHubAt origins arcs classes flips hubs n)
