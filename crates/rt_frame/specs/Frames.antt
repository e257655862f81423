-- Frames: objects, saved registers, and the other bytes.
use Rattle.std.specs.Prelude.{◌≡◌, ◌↔◌, ◌⊎◌, ℕ, zero, suc, ℤ, pos, ◌+ℤ◌, ◌-ℤ◌, ◌<ℤ◌, ◌+◌, ◌<◌, ◌≤◌, ◌&&◌, int_lt, not, Bool, false}
use Rattle.std.specs.Prelude.{Option, Some, None, List, [], ◌∷◌, ◌++◌, map, Contains, AllPairs, length, if◌then◌else◌}
use Rattle.std.specs.List.{list_any}
use Rattle.std.specs.Ordering.{int_eq}
use Rattle.std.specs.Int.{int_wrap, w32}
use Rattle.rt_flow.specs.declared.def.Def.{Def}
use Rattle.rt_flow.specs.Bodies.{Body, AreReaching}
use Rattle.rt_track.specs.declared.value.Value.{Value}
use Rattle.rt_track.specs.declared.value.Value.TheVariants as value
use Rattle.rt_body.specs.declared.action.Action.{Action}
use Rattle.rt_body.specs.declared.action.Action.TheVariants as action
use Rattle.rt_body.specs.declared.action.Address.{Address}
use Rattle.rt_body.specs.declared.action.Width.{Width}
use Rattle.rt_body.specs.declared.action.Width.TheVariants as width
use Rattle.rt_body.specs.Readings.{Reading, action_at}
use Rattle.rt_liveness.specs.declared.call.Call.{Call}
use Rattle.rt_frame.specs.declared.spot.Spot.{Spot}
use Rattle.rt_frame.specs.declared.spot.Spot.TheVariants as spot
use Rattle.rt_frame.specs.declared.question.Question.{Question}
use Rattle.rt_frame.specs.declared.question.Question.TheVariants.{OfUse, OfDefinition}
use Rattle.rt_frame.specs.Questions.{def_value, address_value, questions}

-- what a line speaks of is the frame at an offset; where a use may have several values, its definitions are spoken of
abbrev pub IsOfFrame : Reading → ℤ → Question → Type 0
IsOfFrame reading k (OfUse site register) =
    (reading.value_at site register ≡ value.Frame k)
    ⊎ ((reading.value_at site register ≡ value.Multi) ×
    ((def : Def) × Contains (reading.reaching site register) def × (def_value reading register def ≡ value.Frame k)))
IsOfFrame reading k (OfDefinition def register) = def_value reading register def ≡ value.Frame k

-- an object of the frame begins at an offset: a line speaks of it
pub record IsTaken (reading : Reading) (calls : List (List Call)) (k : ℤ) : Type 0 where
  pub site : ℕ
  pub within : site < length reading.actions
  pub question : Question
  pub asked : Contains (questions reading calls site (action_at reading.actions site)) question
  pub is_of_frame : IsOfFrame reading k question

-- the registers that are kept for the caller: ra, s0 to s11 (RISC-V psABI, "Integer Calling Convention")
abbrev pub kept_registers : List ℕ
kept_registers = 1 ∷ 8 ∷ 9 ∷ 18 ∷ 19 ∷ 20 ∷ 21 ∷ 22 ∷ 23 ∷ 24 ∷ 25 ∷ 26 ∷ 27 ∷ []

-- a register is one of them
abbrev pub IsKept : ℕ → Type 0
IsKept register = Contains kept_registers register

-- a word of the frame in which such a register's value at the entry is saved
pub record IsSaved (reading : Reading) (k : ℤ) : Type 0 where
  pub site : ℕ
  pub within : site < length reading.actions
  pub stored : ℕ
  pub address : Address
  pub stores : action_at reading.actions site ≡ action.Store width.Word stored address
  pub register : ℕ
  pub is_kept : IsKept register
  pub saves : reading.value_at site stored ≡ value.Entry register (pos 0)
  pub there : address_value reading site address ≡ value.Frame k

-- a procedure's frame: the offsets at which objects begin, and those of the words in which registers are saved
pub record Layout : Type 0 where
  pub taken : List ℤ
  pub saved : List ℤ

-- a later number, or this one
abbrev pub later_or : Option ℤ → ℤ → Option ℤ
later_or None a = Some a
later_or (Some later) a = Some later

-- the greatest of ascending offsets that isn't above one
abbrev pub greatest_upto : ℤ → List ℤ → Option ℤ
greatest_upto k [] = None
greatest_upto k (a ∷ offsets) = if int_lt k a then greatest_upto k offsets else later_or (greatest_upto k offsets) a

-- an offset lies from one to another
abbrev pub is_from_to : ℤ → ℤ → ℤ → Bool
is_from_to a k offset = not (int_lt offset a) && not (int_lt k offset)

-- an access at an offset, where the object that begins last before it is known: it is on that object, unless a saved register lies between
abbrev pub spot_from : List ℤ → ℤ → Option ℤ → Spot
spot_from saved k None = spot.Location k
spot_from saved k (Some a) = if list_any (is_from_to a k) saved then spot.Location k else spot.OnObject a (int_wrap w32 (k -ℤ a))

-- where an access at an offset goes
abbrev pub spot_at : Layout → ℤ → Spot
spot_at layout k = spot_from layout.saved k (greatest_upto k layout.taken)

-- how many bytes a store writes
abbrev pub width_bytes : Width → ℕ
width_bytes width.Word = 4
width_bytes width.Half = 2
width_bytes width.Byte = 1

-- the location of the byte of the frame at an offset
abbrev pub byte_at : ℤ → ℤ
byte_at k = pos 4294967296 +ℤ k

-- the locations of so many bytes from an offset on
abbrev pub bytes_from : ℤ → ℕ → List ℤ
bytes_from k zero = []
bytes_from k (suc n) = byte_at k ∷ bytes_from (k +ℤ pos 1) n

-- a value is the frame at an offset
abbrev pub is_frame : ℤ → Value → Bool
is_frame k (value.Frame a) = int_eq a k
is_frame k other = false

-- the bytes that a store by an address of this value writes, where it goes to the frame itself
abbrev pub stored_at_spot : Width → Spot → List ℤ
stored_at_spot width (spot.Location k) = bytes_from k (width_bytes width)
stored_at_spot width (spot.OnObject a distance) = []

abbrev pub stored_by : Layout → Width → Value → List ℤ
stored_by layout width (value.Frame k) = stored_at_spot width (spot_at layout k)
stored_by layout width other = []

-- the bytes of the frame that a site defines
abbrev pub bytes_defined : Reading → Layout → ℕ → Action → List ℤ
bytes_defined reading layout site (action.Store width register address) = stored_by layout width (address_value reading site address)
bytes_defined reading layout site other = []

-- the bytes that sites define, the first of which has number i
abbrev pub frame_definitions_from : Reading → Layout → ℕ → List Action → List (ℕ × ℤ)
frame_definitions_from reading layout i [] = []
frame_definitions_from reading layout i (act ∷ actions) =
    map (λ byte. (i, byte)) (bytes_defined reading layout i act) ++ frame_definitions_from reading layout (i + 1) actions

-- the procedure's sites and edges, with the bytes of the frame that its sites define
abbrev pub frame_body : Reading → Layout → Body
frame_body reading layout = record reading.body { defs = frame_definitions_from reading layout 0 reading.actions }

-- what is known of a procedure's frame: its layout, and the definitions of a byte that reach a site
pub record Frame : Type 0 where
  pub layout : Layout
  pub reaching : ℕ → ℤ → List Def

-- each number is below those after it
abbrev pub AreAscending : List ℤ → Type 0
AreAscending offsets = AllPairs (λ a b. a <ℤ b) offsets

-- the frame is that of a procedure of which this is known, with these calls at its sites; no definition reaches what is no site
pub record IsFrameOf (reading : Reading) (calls : List (List Call)) (frame : Frame) : Type 0 where
  pub taken_ascending : AreAscending frame.layout.taken
  pub taken : (k : ℤ) → Contains frame.layout.taken k ↔ IsTaken reading calls k
  pub saved_ascending : AreAscending frame.layout.saved
  pub saved : (k : ℤ) → Contains frame.layout.saved k ↔ IsSaved reading k
  pub reaching : (site : ℕ) (loc : ℤ) → site < length reading.actions →
      AreReaching (frame_body reading frame.layout) loc site (frame.reaching site loc)
  pub reaching_else : (site : ℕ) (loc : ℤ) → length reading.actions ≤ site → frame.reaching site loc ≡ []
