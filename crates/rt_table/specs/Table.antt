-- The table: what each site says of types, by what it does.
use Rattle.std.specs.Prelude.{◌≡◌, ℕ, zero, suc, ℤ, pos, ◌+◌, ◌-◌, ◌+ℤ◌, ◌<◌, ◌≤◌, ◌==◌, ◌%◌, nat_le, nat_lt, int_le}
use Rattle.std.specs.Prelude.{◌&&◌, ◌||◌, not, Bool, true, false, if◌then◌else◌, Option, Some, None}
use Rattle.std.specs.Prelude.{List, [], ◌∷◌, ◌++◌, map, flat_map, fold, length, slice_index_or}
use Rattle.std.specs.Ordering.{int_eq, nat_cmp}
use Rattle.std.specs.List.{filter, list_any}
use Rattle.std.specs.Int.{cast_unsigned, int_wrap, w32}
use Rattle.std.specs.BTreeSet.{insert_key}
use Rattle.rt_lines.specs.declared.label.Loc.TheVariants.{Arg, Stack}
use Rattle.rt_lines.specs.declared.label.Label.{Label}
use Rattle.rt_lines.specs.declared.label.Label.TheVariants as label
use Rattle.rt_lattice.specs.declared.role.Role.{Role}
use Rattle.rt_lattice.specs.declared.role.Role.TheVariants as role
use Rattle.rt_flow.specs.declared.def.Def.{Def}
use Rattle.rt_flow.specs.declared.def.Def.TheVariants.{Entry, At}
use Rattle.rt_track.specs.declared.value.Value.{Value}
use Rattle.rt_track.specs.declared.value.Value.TheVariants as value
use Rattle.rt_body.specs.declared.action.Action.{Action}
use Rattle.rt_body.specs.declared.action.Action.TheVariants as action
use Rattle.rt_body.specs.declared.action.Address.{Address}
use Rattle.rt_body.specs.declared.action.Address.TheVariants as address
use Rattle.rt_body.specs.declared.action.Loaded.{Loaded}
use Rattle.rt_body.specs.declared.action.Loaded.TheVariants as loaded
use Rattle.rt_body.specs.declared.action.Operation.{Operation}
use Rattle.rt_body.specs.declared.action.Operation.TheVariants as operation
use Rattle.rt_body.specs.declared.action.Width.{Width}
use Rattle.rt_body.specs.declared.action.Width.TheVariants as width
use Rattle.rt_body.specs.Readings.{Reading, action_at}
use Rattle.rt_liveness.specs.declared.call.Call.{Call}
use Rattle.rt_liveness.specs.Calls.{gives_result, taken_registers}
use Rattle.rt_frame.specs.declared.spot.Spot.{Spot}
use Rattle.rt_frame.specs.declared.spot.Spot.TheVariants as spot
use Rattle.rt_frame.specs.declared.addition.Addition.{Addition}
use Rattle.rt_frame.specs.declared.addition.Addition.TheVariants.{IndexLeft, IndexRight, Indices, Untold}
use Rattle.rt_frame.specs.Questions.{def_value, is_multi, is_kept, addition, results, address_value, is_call_action}
use Rattle.rt_frame.specs.Frames.{Frame, spot_at, byte_at, is_frame}
use Rattle.rt_rows.specs.declared.name.Name.{Name}
use Rattle.rt_rows.specs.declared.name.Name.TheVariants as name
use Rattle.rt_lines.specs.declared.variable.Base.{Base}
use Rattle.rt_lines.specs.declared.variable.Base.TheVariants as base
use Rattle.rt_lines.specs.declared.variable.Dtv.{Dtv}
use Rattle.rt_lines.specs.declared.line.Line.{Line}
use Rattle.rt_lines.specs.declared.line.Line.TheVariants as line
use Rattle.rt_rows.specs.declared.row.Root.{Root}
use Rattle.rt_rows.specs.declared.row.Root.TheVariants as root
use Rattle.rt_rows.specs.declared.row.Term.{Term}
use Rattle.rt_rows.specs.declared.row.Row.{Row}
use Rattle.rt_rows.specs.declared.row.Row.TheVariants as row
use Rattle.rt_rows.specs.Terms.{named, along, row_names, name_eq}
use Rattle.rt_scheme.specs.Instances.{instance_lines, instance_ports}
use Rattle.rt_scheme.specs.Ports.{has_port, label_at}
use Rattle.rt_table.specs.declared.side.Side.{Side}
use Rattle.rt_table.specs.declared.side.Side.TheVariants.{Variable, Code}
use Rattle.rt_table.specs.declared.item.Item.{Item}
use Rattle.rt_table.specs.declared.item.Item.TheVariants as item
use Rattle.rt_table.specs.declared.pointer.Pointer.{Pointer}
use Rattle.rt_table.specs.declared.pointer.Pointer.TheVariants.{Through, InFrame, Nowhere}

-- how a call is told: a procedure of the group, which takes these words of the stack; a scheme, by its own base, its lines, and how many
-- argument registers a signature says that the function takes, where it says so; what a register holds; nothing is known of it
pub data Target : Type 0 where
  Member : ℕ → List ℕ → Target
  Scheme : ℕ → List Line → Option ℕ → Target
  Held : ℕ → Target
  Unknown : Target

-- a call of a site, and how it is told
pub record Linked : Type 0 where
  pub call : Call
  pub target : Target

-- what the table is read against: the number of a procedure, what is known of its registers and of its frame, the calls of its sites, which
-- symbols lie in executable sections, and the constants of the roles
pub record Context : Type 0 where
  pub procedure : ℕ
  pub reading : Reading
  pub frame : Frame
  pub linked : List (List Linked)
  pub is_code : ℕ → Bool
  pub constant : Role → ℕ

-- Variables.

abbrev pub definition : Context → ℕ → ℕ → Term
definition context site register = named (name.Definition context.procedure site register)

abbrev pub merge_name : Context → ℕ → ℕ → Name
merge_name context site register = name.Merge context.procedure site register

abbrev pub object : Context → ℤ → Term
object context start = named (name.Object context.procedure start)

abbrev pub port : Context → Label → Term
port context letter = record { root = root.Proc context.procedure; word = letter ∷ [] }

-- an argument register, a0 to a7
abbrev pub is_argument : ℕ → Bool
is_argument register = nat_le 10 register && nat_le register 17

abbrev pub argument : Context → ℕ → Term
argument context register = port context (label.In (Arg (register - 10)))

-- a word of the caller's frame in which an argument may be passed
abbrev pub is_stack_word : ℤ → Bool
is_stack_word k = int_le (pos 0) k && int_le k (pos 65532) && (cast_unsigned w32 k % 4 == 0)

abbrev pub stack_argument : Context → ℤ → Term
stack_argument context k = port context (label.In (Stack (cast_unsigned w32 k)))

-- the address of a symbol: code, or a global
abbrev pub symbol_side : Context → ℕ → Side
symbol_side context symbol = if context.is_code symbol then Code else Variable (record { root = root.Global symbol; word = [] })

-- the term of a value to which nothing was added, if it has one
abbrev pub if_zero : ℤ → Side → Option Side
if_zero offset side = if int_eq offset (pos 0) then Some side else None

-- the side of what a register held at the entry, plus an offset: an argument
abbrev pub entry_side : Context → ℕ → ℤ → Option Side
entry_side context register offset = if is_argument register then if_zero offset (Variable (argument context register)) else None

-- the calls of a site
abbrev pub linked_at : Context → ℕ → List Linked
linked_at context site = slice_index_or context.linked site []

-- a site is a call
abbrev pub is_call_site : Context → ℕ → Bool
is_call_site context site = is_call_action (action_at context.reading.actions site)

-- the existential of the argument or result of a label, in the instance that a call of a site makes of a scheme
abbrev pub port_of : Context → ℕ → ℕ → Label → Term
port_of context site call letter = named (name.Port context.procedure site call letter)

-- the argument or result of another procedure
abbrev pub port_of_member : ℕ → Label → Term
port_of_member member letter = record { root = root.Proc member; word = letter ∷ [] }

-- the result of a call of which nothing is known
abbrev pub unknown_result : Context → ℕ → ℕ → Side
unknown_result context site call = Variable (named (name.Result context.procedure site call))

-- the result in a0 of a call of what a side is; of which nothing is known where that is no variable
abbrev pub pointer_result : Context → ℕ → ℕ → Option Side → Side
pointer_result context site call (Some (Variable x)) = Variable (along x (label.Out 0 ∷ []))
pointer_result context site call other = unknown_result context site call

-- only the first result
abbrev pub if_first : ℕ → Side → Option Side
if_first zero side = Some side
if_first (suc r) side = None

-- the result of a number of a call of a site, by the sides of uses
abbrev pub result_by : Context → (ℕ → ℕ → Option Side) → ℕ → ℕ → ℕ → Call → Target → Option Side
result_by context side_at site i r call (Member q words) =
    if gives_result call r then Some (Variable (port_of_member q (label.Out r))) else None
result_by context side_at site i r call (Scheme own lines covered) =
    if has_port (instance_ports own lines 0) (label.Out r) then Some (Variable (port_of context site i (label.Out r))) else None
result_by context side_at site i r call (Held register) = if_first r (pointer_result context site i (side_at site register))
result_by context side_at site i r call Unknown = if_first r (unknown_result context site i)

-- what a call wrote into a register: its result, if the register is a result's
abbrev pub written_by : Context → (ℕ → ℕ → Option Side) → ℕ → ℕ → List Linked → Option Side
written_by context side_at site register [] = None
written_by context side_at site register (linked ∷ more) =
    if nat_le 10 register && nat_le register 11 then result_by context side_at site 0 (register - 10) linked.call linked.target else None

-- the side of what a site wrote into a register
abbrev pub written_side : Context → (ℕ → ℕ → Option Side) → ℕ → ℕ → Option Side
written_side context side_at site register =
    if is_call_site context site then written_by context side_at site register (linked_at context site) else
    Some (Variable (definition context site register))

-- a side, where nothing was added to it
abbrev pub if_nothing_added : ℤ → Option Side → Option Side
if_nothing_added offset side = if int_eq offset (pos 0) then side else None

-- the side of a value, by the sides of what sites wrote; `own` stands for several values
abbrev pub value_side : Context → (ℕ → ℕ → Option Side) → Name → Value → Option Side
value_side context written own (value.Entry register offset) = entry_side context register offset
value_side context written own (value.At site register offset) = if_nothing_added offset (written site register)
value_side context written own (value.Sym symbol offset) = if_zero offset (symbol_side context symbol)
value_side context written own (value.Frame k) = Some (Variable (object context k))
value_side context written own value.Multi = Some (Variable (named own))
value_side context written own (value.Const n) = None

-- the side of what a site wrote into a register. Where results of calls through registers are called in turn, it is followed through so
-- many of them: as each call comes before the next one on every way to it, there are no more than sites
abbrev pub at_side : ℕ → Context → ℕ → ℕ → Option Side
at_side zero context site register = None
at_side (suc steps) context site register =
    written_side context
    (λ (s r : ℕ). value_side context (at_side steps context) (merge_name context s r) (context.reading.value_at s r))
    site register

abbrev pub def_written : Context → ℕ → ℕ → Option Side
def_written context site register = at_side (length context.reading.actions) context site register

-- the side of a value
abbrev pub side_of : Context → Name → Value → Option Side
side_of context own v = value_side context (def_written context) own v

-- the side of the use of a register at a site
abbrev pub use_side : Context → ℕ → ℕ → Option Side
use_side context site register = side_of context (merge_name context site register) (context.reading.value_at site register)

-- the side of a definition of a register
abbrev pub def_own : Context → ℕ → Def → Name
def_own context register Entry = name.Definition context.procedure 0 register
def_own context register (At site) = name.Definition context.procedure site register

abbrev pub def_side : Context → ℕ → Def → Option Side
def_side context register def = side_of context (def_own context register def) (def_value context.reading register def)

-- Rows.

-- what flows into a term
abbrev pub flow : Context → Option Side → Term → List Row
flow context None y = []
flow context (Some Code) y = row.Low (context.constant role.Code) y ∷ []
flow context (Some (Variable x)) y = row.Sub x y ∷ []

-- the same, or that the term exists where nothing does
abbrev pub flow_or_exists : Context → Option Side → Term → List Row
flow_or_exists context None y = row.Var y ∷ []
flow_or_exists context side y = flow context side y

-- the constant of a role above a side; code has none above it
abbrev pub below : Context → Role → Option Side → List Row
below context above None = []
below context above (Some Code) = []
below context above (Some (Variable x)) = row.Up x (context.constant above) ∷ []

-- the constant of a role below what a site writes
abbrev pub result_above : Context → Role → ℕ → ℕ → List Row
result_above context role site to = if to == 0 then [] else row.Low (context.constant role) (definition context site to) ∷ []

-- Addresses.

abbrev pub through : Option Side → ℤ → Pointer
through (Some (Variable x)) k = Through x k
through other k = Nowhere

abbrev pub spot_pointer : Context → Spot → Pointer
spot_pointer context (spot.OnObject start distance) = Through (object context start) distance
spot_pointer context (spot.Location k) = InFrame k

-- where an address of one value leads: through the side of the same value with nothing added to it
abbrev pub value_pointer : Context → Value → Pointer
value_pointer context (value.Entry register offset) = if is_argument register then Through (argument context register) offset else Nowhere
value_pointer context (value.At site register offset) = through (def_written context site register) offset
value_pointer context (value.Sym symbol offset) = through (Some (symbol_side context symbol)) offset
value_pointer context (value.Frame k) = spot_pointer context (spot_at context.frame.layout k)
value_pointer context other = Nowhere

-- where an address leads: where the register may hold several values, through all of them together at the immediate
abbrev pub register_pointer : Context → ℕ → ℕ → ℤ → Pointer
register_pointer context site register immediate =
    if is_multi (context.reading.value_at site register) then Through (named (merge_name context site register)) immediate else
    value_pointer context (address_value context.reading site (address.Register register immediate))

abbrev pub pointer : Context → ℕ → Address → Pointer
pointer context site (address.Symbol symbol addend) = value_pointer context (value.Sym symbol addend)
pointer context site (address.Register register immediate) = register_pointer context site register immediate

-- Loads and stores.

-- so many bits
abbrev pub loaded_bits : Loaded → ℕ
loaded_bits loaded.Word = 32
loaded_bits loaded.SignedHalf = 16
loaded_bits loaded.Half = 16
loaded_bits loaded.SignedByte = 8
loaded_bits loaded.Byte = 8

abbrev pub width_bits : Width → ℕ
width_bits width.Word = 32
width_bits width.Half = 16
width_bits width.Byte = 8

-- what a narrow load reads; a word may be anything
abbrev pub loaded_role : Loaded → Option Role
loaded_role loaded.Word = None
loaded_role loaded.SignedHalf = Some role.Sint16
loaded_role loaded.Half = Some role.Uint16
loaded_role loaded.SignedByte = Some role.Sint8
loaded_role loaded.Byte = Some role.Uint8

-- what is read into a register, or that it exists where it is read into x0
abbrev pub read_into : Context → ℕ → ℕ → Term → Row
read_into context site to x = if to == 0 then row.Var x else row.Sub x (definition context site to)

abbrev pub role_row : Context → Option Role → Term → List Row
role_row context None x = []
role_row context (Some above) x = row.Up x (context.constant above) ∷ []

-- a load through a variable
abbrev pub load_through : Context → ℕ → Loaded → ℕ → Term → ℤ → List Row
load_through context site loaded to d k =
    let x = along d (label.Load ∷ label.Field (loaded_bits loaded) k ∷ []) in
    read_into context site to x ∷ role_row context (loaded_role loaded) x

-- the definitions of the four bytes of a word of the frame that reach a site, each once, in order
abbrev pub def_below : Def → Def → Bool
def_below x Entry = false
def_below Entry (At d) = true
def_below (At c) (At d) = nat_lt c d

abbrev pub merged : List Def → List Def → List Def
merged xs [] = xs
merged [] ys = ys
merged (x ∷ xs) (y ∷ ys) =
    if def_below x y then x ∷ merged xs (y ∷ ys) else
    if def_below y x then y ∷ merged (x ∷ xs) ys else x ∷ merged xs ys

abbrev pub byte_defs : Context → ℕ → ℤ → ℕ → List Def
byte_defs context site k i = context.frame.reaching site (byte_at (k +ℤ pos i))

abbrev pub word_defs : Context → ℕ → ℤ → List Def
word_defs context site k =
    merged (merged (byte_defs context site k 0) (byte_defs context site k 1))
    (merged (byte_defs context site k 2) (byte_defs context site k 3))

-- what a store of a word at an offset of the frame puts there; any other definition of its bytes is of no side
abbrev pub stored_side : Context → ℤ → ℕ → Action → Option Side
stored_side context k site (action.Store width.Word stored to) =
    if is_frame k (address_value context.reading site to) then use_side context site stored else None
stored_side context k site other = None

-- what a definition of a byte of the word at an offset brings into a variable: the argument that the caller passed there, or what
-- was stored
abbrev pub word_flow : Context → ℤ → Term → Def → List Row
word_flow context k y Entry = if is_stack_word k then row.Sub (stack_argument context k) y ∷ [] else []
word_flow context k y (At site) = flow context (stored_side context k site (action_at context.reading.actions site)) y

-- a load from the frame itself: what was stored there
abbrev pub load_word : Context → ℕ → ℕ → ℤ → List Row
load_word context site to k = if to == 0 then [] else flat_map (word_flow context k (definition context site to)) (word_defs context site k)

abbrev pub load_in_frame : Context → ℕ → Loaded → ℕ → ℤ → List Row
load_in_frame context site loaded.Word to k = load_word context site to k
load_in_frame context site narrow to k = []

abbrev pub load_rows : Context → ℕ → Loaded → ℕ → Pointer → List Row
load_rows context site loaded to (Through d k) = load_through context site loaded to d k
load_rows context site loaded to (InFrame k) = load_in_frame context site loaded to k
load_rows context site loaded to Nowhere = []

-- a store through a variable: a word keeps what flows into it
abbrev pub store_through : Context → ℕ → Width → ℕ → Term → ℤ → List Row
store_through context site width.Word stored d k =
    flow_or_exists context (use_side context site stored) (along d (label.Store ∷ label.Field 32 k ∷ []))
store_through context site narrow stored d k = row.Var (along d (label.Store ∷ label.Field (width_bits narrow) k ∷ [])) ∷ []

abbrev pub store_rows : Context → ℕ → Width → ℕ → Pointer → List Row
store_rows context site width stored (Through d k) = store_through context site width stored d k
store_rows context site width stored other = []

-- Computations.

-- an index is a number, and what it is added to flows on
abbrev pub indexed : Context → ℕ → ℕ → ℕ → ℕ → List Row
indexed context site to other index =
    (if to == 0 then [] else flow context (use_side context site other) (definition context site to))
    ++ below context role.Num32 (use_side context site index)

abbrev pub addition_rows : Context → ℕ → ℕ → ℕ → ℕ → Addition → List Row
addition_rows context site to left right IndexLeft = indexed context site to right left
addition_rows context site to left right IndexRight = indexed context site to left right
addition_rows context site to left right Indices =
    below context role.Num32 (use_side context site left) ++ below context role.Num32 (use_side context site right)
    ++ result_above context role.Num32 site to
addition_rows context site to left right Untold = []

-- the roles of the operands of a computation, where it says something of them, and of its result
abbrev pub left_role : Operation → Option Role
left_role operation.Scale = Some role.Num32
left_role operation.ShiftRight = Some role.Uint32
left_role operation.ShiftRightSigned = Some role.Sint32
left_role operation.Signed = Some role.Sint32
left_role operation.Unsigned = Some role.Uint32
left_role operation.SignedByUnsigned = Some role.Sint32
left_role operation.LessSigned = Some role.Sint32
left_role operation.LessUnsigned = None

abbrev pub right_role : Operation → Option Role
right_role operation.Scale = Some role.Num32
right_role operation.ShiftRight = Some role.Num32
right_role operation.ShiftRightSigned = Some role.Num32
right_role operation.Signed = Some role.Sint32
right_role operation.Unsigned = Some role.Uint32
right_role operation.SignedByUnsigned = Some role.Uint32
right_role operation.LessSigned = Some role.Sint32
right_role operation.LessUnsigned = None

abbrev pub result_role : Operation → Role
result_role operation.Scale = role.Num32
result_role operation.ShiftRight = role.Uint32
result_role operation.ShiftRightSigned = role.Sint32
result_role operation.Signed = role.Sint32
result_role operation.Unsigned = role.Uint32
result_role operation.SignedByUnsigned = role.Sint32
result_role operation.LessSigned = role.Bool
result_role operation.LessUnsigned = role.Bool

-- an operand of a computation; an immediate is none
abbrev pub operand_rows : Context → ℕ → Option ℕ → Option Role → List Row
operand_rows context site (Some register) (Some above) = below context above (use_side context site register)
operand_rows context site register above = []

abbrev pub compute_rows : Context → ℕ → Operation → ℕ → ℕ → Option ℕ → List Row
compute_rows context site operation to left right =
    operand_rows context site (Some left) (left_role operation) ++ operand_rows context site right (right_role operation)
    ++ result_above context (result_role operation) site to

-- Returns.

-- the calls of all sites
abbrev pub calls_of : Context → List (List Call)
calls_of context = map (λ (here : List Linked). map (λ (linked : Linked). linked.call) here) context.linked

-- what flows into a result: the side of each definition of its register, or that the result exists where none has a side; nothing
-- where there is no definition to tell
abbrev pub exists_if_none : Term → List Row → List Row
exists_if_none y [] = row.Var y ∷ []
exists_if_none y rows = rows

abbrev pub returned : Context → Term → ℕ → List Def → List Row
returned context y register [] = []
returned context y register defs = exists_if_none y (flat_map (λ def. flow context (def_side context register def) y) defs)

abbrev pub result_rows : Context → ℕ → ℕ → List Row
result_rows context site r =
    returned context (port context (label.Out r)) (10 + r) (results context.reading (calls_of context) site (10 + r))

-- The rows of a site.

abbrev pub kept_rows : Context → ℕ → ℕ → ℕ → Bool → List Row
kept_rows context site to from true = flow context (use_side context site from) (definition context site to)
kept_rows context site to from false = []

abbrev pub site_rows : Context → ℕ → Action → List Row
site_rows context site (action.AddImmediate to from immediate) =
    kept_rows context site to from (is_kept context.reading site to from immediate)
site_rows context site (action.Add to left right) = addition_rows context site to left right (addition context.reading site left right)
site_rows context site (action.Load loaded to from) = load_rows context site loaded to (pointer context site from)
site_rows context site (action.Store width stored to) = store_rows context site width stored (pointer context site to)
site_rows context site (action.Compute operation to left right) = compute_rows context site operation to left right
site_rows context site (action.Compare left right) =
    below context role.Sint32 (use_side context site left) ++ below context role.Sint32 (use_side context site right)
site_rows context site action.Return = result_rows context site 0 ++ result_rows context site 1
site_rows context site other = []

-- Calls.

-- what is passed as the argument of a label, into a variable: what the register holds, or what was put into the word of the frame that the
-- callee finds there
abbrev pub spot_flow : Context → ℕ → Term → Spot → List Row
spot_flow context site y (spot.Location k) = flat_map (word_flow context k y) (word_defs context site k)
spot_flow context site y (spot.OnObject start distance) = []

abbrev pub stack_flow : Context → ℕ → ℕ → Term → Value → List Row
stack_flow context site k y (value.Frame m) = spot_flow context site y (spot_at context.frame.layout (int_wrap w32 (m +ℤ pos k)))
stack_flow context site k y other = []

abbrev pub argument_flow : Context → ℕ → Label → Term → List Row
argument_flow context site (label.In (Arg n)) y = flow context (use_side context site (10 + n)) y
argument_flow context site (label.In (Stack k)) y = stack_flow context site k y (context.reading.value_at site 2)
argument_flow context site other y = []

-- the arguments in registers that a callee takes, a0 to a7
abbrev pub register_arguments : Call → List Label
register_arguments call = map (λ (register : ℕ). label.In (Arg (register - 10))) (taken_registers call)

-- the arguments on the stack of these offsets
abbrev pub stack_arguments : List ℕ → List Label
stack_arguments words = map (λ (k : ℕ). label.In (Stack k)) words

-- the arguments that a scheme takes, by its ports and how many argument registers its signature covers: a0 to a7 and then words of the
-- stack, ascending
abbrev pub port_word : Label → List ℕ
port_word (label.In (Stack k)) = k ∷ []
port_word other = []

abbrev pub port_words : List (Label × ℕ) → List ℕ
port_words ports = fold (insert_key nat_cmp) [] (flat_map (λ (port : Label × ℕ). port_word port.0) ports)

-- the argument register of a number is among the first ones that a signature says that the function takes
abbrev pub is_covered : Option ℕ → ℕ → Bool
is_covered None n = false
is_covered (Some count) n = nat_lt n count

abbrev pub port_registers : List (Label × ℕ) → Option ℕ → List ℕ
port_registers ports covered =
    filter (λ (n : ℕ). has_port ports (label.In (Arg n)) || is_covered covered n) (0 ∷ 1 ∷ 2 ∷ 3 ∷ 4 ∷ 5 ∷ 6 ∷ 7 ∷ [])

abbrev pub port_arguments : List (Label × ℕ) → Option ℕ → List Label
port_arguments ports covered = map (λ (n : ℕ). label.In (Arg n)) (port_registers ports covered) ++ stack_arguments (port_words ports)

-- rows as items
abbrev pub told : List Row → List Item
told rows = map item.Told rows

-- a call through a register: what it holds is code, and takes what is passed; nothing is said where that is no variable
abbrev pub pointer_call : Context → ℕ → Call → Option Side → List Row
pointer_call context site call (Some (Variable x)) =
    row.Up x (context.constant role.Code)
    ∷ flat_map (λ (l : Label). argument_flow context site l (along x (l ∷ []))) (register_arguments call)
pointer_call context site call other = []

-- the items of a call of a site: of a procedure of the group by its own variables, of a scheme by the lines of an instance, where an
-- argument that the lines don't name has a port of its own
abbrev pub call_by : Context → ℕ → ℕ → Call → Target → List Item
call_by context site i call (Member q words) =
    told (flat_map (λ (l : Label). argument_flow context site l (port_of_member q l)) (register_arguments call ++ stack_arguments words))
call_by context site i call (Scheme own lines covered) =
    item.Instance site i
    ∷ told (flat_map (λ (l : Label). argument_flow context site l (port_of context site i l))
    (port_arguments (instance_ports own lines 0) covered))
call_by context site i call (Held register) = told (pointer_call context site call (use_side context site register))
call_by context site i call Unknown = []

-- where a procedure goes on in another one for good, what that gives flows into its own results
abbrev pub tail_result : Context → ℕ → ℕ → Linked → ℕ → List Row
tail_result context site i linked r =
    if gives_result linked.call r then
    flow_or_exists context (result_by context (use_side context) site i r linked.call linked.target) (port context (label.Out r)) else []

abbrev pub tail_results : Context → ℕ → ℕ → Linked → Bool → List Row
tail_results context site i linked true = tail_result context site i linked 0 ++ tail_result context site i linked 1
tail_results context site i linked false = []

-- the items of the calls of a site, the first of which has number i; of a site that is a call, the first one comes back
abbrev pub calls_from : Context → ℕ → ℕ → List Linked → List Item
calls_from context site i [] = []
calls_from context site i (linked ∷ more) =
    (call_by context site i linked.call linked.target
    ++ told (tail_results context site i linked (not (is_call_site context site && (i == 0)))))
    ++ calls_from context site (i + 1) more

-- the items of a site: its rows, and then those of its calls
abbrev pub site_items : Context → ℕ → Action → List Item
site_items context site act = told (site_rows context site act) ++ calls_from context site 0 (linked_at context site)

-- the items of sites, the first of which has number i
abbrev pub items_from : Context → ℕ → List Action → List Item
items_from context i [] = []
items_from context i (act ∷ actions) = site_items context i act ++ items_from context (i + 1) actions

-- Definitions that reach a site together.

-- what the merge of a register at a site takes from each definition that reaches the site
abbrev pub merge_rows : Context → Name → List Row
merge_rows context (name.Merge procedure site register) =
    flat_map (λ def. flow context (def_side context register def) (named (name.Merge procedure site register)))
    (context.reading.reaching site register)
merge_rows context other = []

-- the first merge among names that isn't open
abbrev pub is_closed : List Name → Name → Bool
is_closed open_names (name.Merge procedure site register) = not (list_any (name_eq (name.Merge procedure site register)) open_names)
is_closed open_names other = false

abbrev pub first_closed : List Name → List Name → Option Name
first_closed open_names [] = None
first_closed open_names (x ∷ names) = if is_closed open_names x then Some x else first_closed open_names names

-- Items are written one after the other. Before the first row that names a merge stand the merge's own rows, before which the rows of those
-- stand that they are the first to name; a merge is open from where its own rows begin.
pub data Writes (context : Context) : List Name → List Item → List Item → Type 0 where
  ends : {open_names : List Name} → Writes context open_names [] []
  places : {open_names : List Name} {site i : ℕ} {items done : List Item} → Writes context open_names items done
      → Writes context open_names (item.Instance site i ∷ items) (item.Instance site i ∷ done)
  writes : {open_names : List Name} {x : Row} {items done : List Item} → first_closed open_names (row_names x) ≡ None
      → Writes context open_names items done → Writes context open_names (item.Told x ∷ items) (item.Told x ∷ done)
  opens : {open_names : List Name} {x : Row} {items done : List Item} {merge : Name} →
      first_closed open_names (row_names x) ≡ Some merge
      → Writes context (merge ∷ open_names) (told (merge_rows context merge) ++ item.Told x ∷ items) done
      → Writes context open_names (item.Told x ∷ items) done

-- Instances.

-- what an existential of an instance stands for, by the instance's ports
abbrev pub new_name : Context → ℕ → ℕ → ℕ → Option Label → Name
new_name context site i n (Some letter) = name.Port context.procedure site i letter
new_name context site i n None = name.Inner context.procedure site i n

abbrev pub new_root : Context → ℕ → ℕ → List (Label × ℕ) → Base → Root
new_root context site i ports (base.Proc p) = root.Proc p
new_root context site i ports (base.Global g) = root.Global g
new_root context site i ports (base.Exist n) = root.Named (new_name context site i n (label_at ports n))
new_root context site i ports (base.Outer n) = root.Outer n

abbrev pub new_term : Context → ℕ → ℕ → List (Label × ℕ) → Dtv → Term
new_term context site i ports x = record { root = new_root context site i ports x.base; word = x.word }

abbrev pub new_row : Context → ℕ → ℕ → List (Label × ℕ) → Line → Row
new_row context site i ports (line.Var x) = row.Var (new_term context site i ports x)
new_row context site i ports (line.Same x y) = row.Same (new_term context site i ports x) (new_term context site i ports y)
new_row context site i ports (line.Sub x y) = row.Sub (new_term context site i ports x) (new_term context site i ports y)
new_row context site i ports (line.Low k x) = row.Low k (new_term context site i ports x)
new_row context site i ports (line.Up x k) = row.Up (new_term context site i ports x) k

-- the rows of the instance of a scheme by a call of a site
abbrev pub scheme_rows : Context → ℕ → ℕ → Target → List Row
scheme_rows context site i (Scheme own lines covered) =
    map (new_row context site i (instance_ports own lines 0)) (instance_lines own lines 0)
scheme_rows context site i other = []

abbrev pub target_at : List Linked → ℕ → Target
target_at [] i = Unknown
target_at (linked ∷ more) zero = linked.target
target_at (linked ∷ more) (suc i) = target_at more i

abbrev pub instance_rows : Context → ℕ → ℕ → List Row
instance_rows context site i = scheme_rows context site i (target_at (linked_at context site) i)

-- the rows of items, where these are the rows of instances
abbrev pub filled : (ℕ → ℕ → List Row) → List Item → List Row
filled rows_of [] = []
filled rows_of (item.Told x ∷ items) = x ∷ filled rows_of items
filled rows_of (item.Instance site i ∷ items) = rows_of site i ++ filled rows_of items

-- the rows of a procedure
pub record AreProcedureRows (context : Context) (rows : List Row) : Type 0 where
  pub items : List Item
  pub writes : Writes context [] (items_from context 0 context.reading.actions) items
  pub filled_in : rows ≡ filled (instance_rows context) items
