-- How the words of the stack that a procedure takes are found.
use Rattle.std.specs.Prelude.{◌≡◌, ◌↔◌, ◌⊎◌, ℕ, ℤ, pos, ◌+ℤ◌, ◌&&◌, ◌||◌, Bool, true, false, if◌then◌else◌}
use Rattle.std.specs.Prelude.{Option, Some, None, List, Contains}
use Rattle.std.specs.Int.{cast_unsigned, w32}
use Rattle.std.specs.List.{list_any}
use Rattle.rt_flow.specs.declared.def.Def.{Def}
use Rattle.rt_flow.specs.declared.def.Def.TheVariants.{Entry, At}
use Rattle.rt_track.specs.declared.value.Value.{Value}
use Rattle.rt_track.specs.declared.value.Value.TheVariants as value
use Rattle.rt_body.specs.declared.action.Action.{Action}
use Rattle.rt_body.specs.declared.action.Action.TheVariants as action
use Rattle.rt_body.specs.declared.action.Loaded.TheVariants as loaded
use Rattle.rt_body.specs.Readings.{Reading}
use Rattle.rt_frame.specs.declared.spot.Spot.{Spot}
use Rattle.rt_frame.specs.declared.spot.Spot.TheVariants as spot
use Rattle.rt_frame.specs.Frames.{Frame, byte_at, spot_at}
use Rattle.rt_frame.specs.Questions.{address_value}
use Rattle.rt_table.specs.Table.{is_stack_word}

-- a definition is that of the entry
abbrev pub is_entry : Def → Bool
is_entry Entry = true
is_entry (At site) = false

-- a byte of a word at an offset of the frame may be as the caller left it, where a site reads it
abbrev pub is_passed_byte : Frame → ℕ → ℤ → ℕ → Bool
is_passed_byte frame site k byte = list_any (λ (d : Def). is_entry d) (frame.reaching site (byte_at (k +ℤ pos byte)))

-- one of the bytes of the word may be
abbrev pub is_passed_word : Frame → ℕ → ℤ → Bool
is_passed_word frame site k =
    is_passed_byte frame site k 0
    || (is_passed_byte frame site k 1 || (is_passed_byte frame site k 2 || is_passed_byte frame site k 3))

-- an access goes to the frame itself
abbrev pub is_location : Spot → Bool
is_location (spot.Location k) = true
is_location (spot.OnObject start distance) = false

-- a load by a site of the word at an offset of the frame reads an argument
abbrev pub takes_at : Frame → ℕ → ℤ → Bool
takes_at frame site k = is_stack_word k && (is_location (spot_at frame.layout k) && is_passed_word frame site k)

-- the offset of the argument that a load by a site of the word at an address reads
abbrev pub taken_at : Frame → ℕ → Value → Option ℕ
taken_at frame site (value.Frame k) = if takes_at frame site k then Some (cast_unsigned w32 k) else None
taken_at frame site other = None

-- the offset of the argument that a site loads
abbrev pub taken_by : Reading → Frame → ℕ → Action → Option ℕ
taken_by reading frame site (action.Load loaded.Word to address) = taken_at frame site (address_value reading site address)
taken_by reading frame site other = None

-- a set gained the offset, if there is one, and no other
pub record Gains (old new : List ℕ) (gained : Option ℕ) : Type 0 where
  pub each : (k : ℕ) → Contains new k ↔ (Contains old k ⊎ (gained ≡ Some k))
