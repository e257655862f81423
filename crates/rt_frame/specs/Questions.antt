-- Which variables the lines of a site speak of.
use Rattle.std.specs.Prelude.{ℕ, ◌-◌, ℤ, pos, ◌<◌, nat_le, ◌==◌, ◌&&◌, ◌||◌, not, Bool, true, false, Option, Some, None, List, [], ◌∷◌}
use Rattle.std.specs.Prelude.{◌++◌, map, flat_map, if◌then◌else◌, slice_index_or}
use Rattle.std.specs.List.{filter, list_any, list_all}
use Rattle.std.specs.Ordering.{int_eq}
use Rattle.rt_flow.specs.declared.def.Def.{Def}
use Rattle.rt_flow.specs.declared.def.Def.TheVariants.{Entry, At}
use Rattle.rt_track.specs.declared.value.Value.{Value}
use Rattle.rt_track.specs.declared.value.Value.TheVariants as value
use Rattle.rt_track.specs.Candidates.{entry_value}
use Rattle.rt_track.specs.Values.{plus}
use Rattle.rt_body.specs.declared.action.Action.{Action}
use Rattle.rt_body.specs.declared.action.Action.TheVariants as action
use Rattle.rt_body.specs.declared.action.Address.{Address}
use Rattle.rt_body.specs.declared.action.Address.TheVariants as address
use Rattle.rt_body.specs.declared.action.Operation.{Operation}
use Rattle.rt_body.specs.declared.action.Operation.TheVariants as operation
use Rattle.rt_body.specs.declared.action.Width.{Width}
use Rattle.rt_body.specs.declared.action.Width.TheVariants as width
use Rattle.rt_body.specs.Readings.{Reading, action_at}
use Rattle.rt_body.specs.Told.{IsDefWithin}
use Rattle.rt_proc.specs.declared.site.Callee.{Callee}
use Rattle.rt_proc.specs.declared.site.Callee.TheVariants as callee
use Rattle.rt_liveness.specs.declared.call.Call.{Call}
use Rattle.rt_liveness.specs.Calls.{gives_result, taken_registers}
use Rattle.rt_frame.specs.declared.addition.Addition.{Addition}
use Rattle.rt_frame.specs.declared.addition.Addition.TheVariants.{IndexLeft, IndexRight, Indices, Untold}
use Rattle.rt_frame.specs.declared.question.Question.{Question}
use Rattle.rt_frame.specs.declared.question.Question.TheVariants.{OfUse, OfDefinition}

-- the value of a definition of a register
abbrev pub def_value : Reading → ℕ → Def → Value
def_value reading register Entry = entry_value register
def_value reading register (At site) = reading.value_of site register

-- several values may be there
abbrev pub is_multi : Value → Bool
is_multi value.Multi = true
is_multi other = false

abbrev pub is_const : Value → Bool
is_const (value.Const n) = true
is_const other = false

-- the value of an address
abbrev pub address_value : Reading → ℕ → Address → Value
address_value reading site (address.Symbol symbol addend) = value.Sym symbol addend
address_value reading site (address.Register register immediate) = plus (reading.value_at site register) immediate

-- the address that several values of a register make
abbrev pub address_questions : Reading → ℕ → Address → List Question
address_questions reading site (address.Symbol symbol addend) = []
address_questions reading site (address.Register register immediate) =
    if is_multi (reading.value_at site register) then OfUse site register ∷ [] else []

-- a definition is that of a site
abbrev pub is_at : ℕ → Def → Bool
is_at site Entry = false
is_at site (At d) = d == site

-- the site's own definition of a register reaches its use there
abbrev pub reaches_itself : Reading → ℕ → ℕ → Bool
reaches_itself reading site register = list_any (λ def. is_at site def) (reading.reaching site register)

-- An addition of an immediate that says what it adds to: it copies one of several values, or it steps through them in a loop.
abbrev pub is_kept : Reading → ℕ → ℕ → ℕ → ℤ → Bool
is_kept reading site to from immediate =
    not (to == 0) && is_multi (reading.value_of site to)
    && (int_eq immediate (pos 0) || ((to == from) && reaches_itself reading site from))

-- a definition made by a site that scales: an index of an array
abbrev pub scales : Action → Bool
scales (action.Compute operation.Scale to left right) = true
scales other = false

abbrev pub is_scaled_by : Reading → Def → Bool
is_scaled_by reading Entry = false
is_scaled_by reading (At site) = scales (action_at reading.actions site)

-- all definitions of a register that reach a site are made by scaling
abbrev pub is_index : Reading → ℕ → ℕ → Bool
is_index reading site register = list_all (is_scaled_by reading) (reading.reaching site register)

-- what an addition adds, by whether its operands are indices
abbrev pub addition_by : Bool → Bool → Addition
addition_by true true = Indices
addition_by true false = IndexLeft
addition_by false true = IndexRight
addition_by false false = Untold

abbrev pub addition : Reading → ℕ → ℕ → ℕ → Addition
addition reading site left right =
    if is_const (reading.value_at site left) || is_const (reading.value_at site right) then Untold else
    addition_by (is_index reading site left) (is_index reading site right)

-- the other operand of an addition of an index is spoken of where the sum is written, the index always
abbrev pub addition_questions : ℕ → ℕ → ℕ → ℕ → Addition → List Question
addition_questions site to left right IndexLeft = (if to == 0 then [] else OfUse site right ∷ []) ++ OfUse site left ∷ []
addition_questions site to left right IndexRight = (if to == 0 then [] else OfUse site left ∷ []) ++ OfUse site right ∷ []
addition_questions site to left right Indices = OfUse site left ∷ OfUse site right ∷ []
addition_questions site to left right Untold = []

-- the operands of a computation, but for those of an unsigned comparison, of which nothing is said
abbrev pub operand : ℕ → Option ℕ → List Question
operand site None = []
operand site (Some register) = OfUse site register ∷ []

abbrev pub compute_questions : ℕ → Operation → ℕ → Option ℕ → List Question
compute_questions site operation.LessUnsigned left right = []
compute_questions site other left right = OfUse site left ∷ operand site right

-- the calls that a site makes, or in which it goes on for good
abbrev pub calls_at : List (List Call) → ℕ → List Call
calls_at calls site = slice_index_or calls site []

-- an action is a call
abbrev pub is_call_action : Action → Bool
is_call_action (action.Call callee link) = true
is_call_action other = false

-- the callee of the first of some calls gives the result in a register
abbrev pub first_gives : List Call → ℕ → Bool
first_gives [] register = false
first_gives (call ∷ calls) register = nat_le 10 register && gives_result call (register - 10)

-- a definition of a result's register that an instruction wrote which is no call, or a call whose callee gives the result
abbrev pub is_real : Reading → List (List Call) → ℕ → Def → Bool
is_real reading calls register Entry = false
is_real reading calls register (At site) = if is_call_action (action_at reading.actions site) then first_gives
    (calls_at calls site) register else true

-- a definition that a return tells of: one of the entry, or a real one
abbrev pub is_result : Reading → List (List Call) → ℕ → Def → Bool
is_result reading calls register Entry = true
is_result reading calls register (At site) = is_real reading calls register (At site)

-- the definitions of a result that a return tells of, if a real one reaches it
abbrev pub results : Reading → List (List Call) → ℕ → ℕ → List Def
results reading calls site register =
    let defs = reading.reaching site register in
    if list_any (is_real reading calls register) defs then filter (is_result reading calls register) defs else []

abbrev pub result_questions : Reading → List (List Call) → ℕ → ℕ → List Question
result_questions reading calls site register = map (λ def. OfDefinition def register) (results reading calls site register)

-- what the lines of a call speak of: what is passed in each argument register that the callee takes, and what is called, where a register
-- holds it
abbrev pub target_questions : ℕ → Bool → Callee → List Question
target_questions site true (callee.Unknown register) = OfUse site register ∷ []
target_questions site is_plain other = []

abbrev pub call_questions : ℕ → Call → List Question
call_questions site call = target_questions site call.is_plain call.callee ++ map (λ register. OfUse site register) (taken_registers call)

-- the data of a store of a word
abbrev pub data_questions : ℕ → ℕ → Width → List Question
data_questions site register width.Word = OfUse site register ∷ []
data_questions site register other = []

-- what the lines of an instruction speak of; the frame's offset in an address is no part of that
abbrev pub action_questions : Reading → List (List Call) → ℕ → Action → List Question
action_questions reading calls site (action.AddImmediate to from immediate) =
    if is_kept reading site to from immediate then OfUse site from ∷ [] else []
action_questions reading calls site (action.Add to left right) = addition_questions site to left right (addition reading site left right)
action_questions reading calls site (action.Load loaded to address) = address_questions reading site address
action_questions reading calls site (action.Store width register address) = data_questions site register width ++
    address_questions reading site address
action_questions reading calls site (action.Compute operation to left right) = compute_questions site operation left right
action_questions reading calls site (action.Compare left right) = OfUse site left ∷ OfUse site right ∷ []
action_questions reading calls site action.Return = result_questions reading calls site 10 ++ result_questions reading calls site 11
action_questions reading calls site other = []

-- what the lines of a site speak of: those of its instruction, and those of its calls
abbrev pub questions : Reading → List (List Call) → ℕ → Action → List Question
questions reading calls site act = action_questions reading calls site act ++ flat_map (call_questions site) (calls_at calls site)

-- a question of one of so many sites and of a register x0 to x31
abbrev pub IsQuestionWithin : ℕ → Question → Type 0
IsQuestionWithin sites (OfUse site register) = (site < sites) × (register < 32)
IsQuestionWithin sites (OfDefinition def register) = IsDefWithin sites def × (register < 32)
