-- How the offsets of a frame are gathered.
use Rattle.std.specs.Prelude.{ℕ, ℤ, pos, ◌<◌, ◌↔◌, ◌⊎◌, ◌&&◌, Bool, Option, Some, None, List, Contains, nat_eq, if◌then◌else◌}
use Rattle.std.specs.List.{list_any}
use Rattle.std.specs.Ordering.{int_eq}
use Rattle.rt_track.specs.declared.value.Value.{Value}
use Rattle.rt_track.specs.declared.value.Value.TheVariants as value
use Rattle.rt_body.specs.declared.action.Action.{Action}
use Rattle.rt_body.specs.declared.action.Action.TheVariants as action
use Rattle.rt_body.specs.declared.action.Width.TheVariants as width
use Rattle.rt_body.specs.Readings.{Reading}
use Rattle.rt_frame.specs.Questions.{address_value}
use Rattle.rt_frame.specs.Frames.{kept_registers}

-- a set gained exactly the offsets with a property
pub record Gains (old new : List ℤ) (gained : ℤ → Type 0) : Type 0 where
  pub each : (k : ℤ) → Contains new k ↔ (Contains old k ⊎ gained k)

-- an offset has a property with one of some items
abbrev pub Among : {X : Type 0} → List X → (X → ℤ → Type 0) → ℤ → Type 0
Among {X} xs P k = (x : X) × Contains xs x × P x k

-- an offset has a property with one of the first sites
abbrev pub Upto : (ℕ → ℤ → Type 0) → ℕ → ℤ → Type 0
Upto P sites k = (site : ℕ) × (site < sites) × P site k

-- a register is kept for the caller
abbrev pub keeps : ℕ → Bool
keeps register = list_any (λ kept. nat_eq kept register) kept_registers

-- where a word of one value that is stored at an address of another saves a register
abbrev pub saved_offset : Value → Value → Option ℤ
saved_offset (value.Entry register offset) (value.Frame k) = if keeps register && int_eq offset (pos 0) then Some k else None
saved_offset stored at = None

-- where a site saves a register
abbrev pub saved_by : Reading → ℕ → Action → Option ℤ
saved_by reading site (action.Store width.Word stored to) = saved_offset (reading.value_at site stored) (address_value reading site to)
saved_by reading site other = None
