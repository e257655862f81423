-- What the rows of a procedure name: arguments and results of procedures, globals of some kind, and merges of its registers at its sites;
-- and which constants.
use Rattle.std.proofs.Common.{◌≡◌, ◌≢◌, ◌<◌, ◌≤◌, ◌+◌, ◌-◌, ◌+ℤ◌, zero, suc, ℕ, ℤ, pos, Bool, true, false, cond, not, nat_eq, nat_le, ◌&&◌, ◌||◌, ◌⊎◌, inl, inr, lit<, Option, Some, None, List, [], ◌∷◌, ◌++◌, length, get_or, flat_map, fold, map, filter, refl, sym, ap, subst, ◌∙◌, arith}
use Rattle.std.specs.Prelude.{All, IsTrue}
use Rattle.std.specs.Int.{int_wrap, w32}
use Rattle.std.specs.Ordering.{int_eq}
use Rattle.std.specs.List.{list_any}
use Rattle.std.proofs.lemmas.Bool.{cases_lt}
use Rattle.std.proofs.lemmas.List.{get_or_past}
use Rattle.std.proofs.lemmas.List.Elements.{All-nil, All-cons, All-append, All-filter, All-head, All-map, All-tail, All-get_or}
use Rattle.rt_lattice.specs.declared.role.Role.{Role}
use Rattle.rt_lattice.specs.declared.role.Role.TheVariants as role
use Rattle.rt_flow.specs.declared.def.Def.{Def}
use Rattle.rt_flow.specs.declared.def.Def.TheVariants as def
use Rattle.rt_track.specs.declared.value.Value.{Value}
use Rattle.rt_track.specs.declared.value.Value.TheVariants as value
use Rattle.rt_track.specs.Values.{plus}
use Rattle.rt_body.specs.declared.action.Action.{Action}
use Rattle.rt_body.specs.declared.action.Action.TheVariants as action
use Rattle.rt_body.specs.declared.action.Address.{Address}
use Rattle.rt_body.specs.declared.action.Address.TheVariants as address
use Rattle.rt_body.specs.declared.action.Loaded.{Loaded}
use Rattle.rt_body.specs.declared.action.Loaded.TheVariants as loaded
use Rattle.rt_body.specs.declared.action.Operation.{Operation}
use Rattle.rt_body.specs.declared.action.Width.{Width}
use Rattle.rt_body.specs.declared.action.Width.TheVariants as width
use Rattle.rt_body.specs.Readings.{action_at}
use Rattle.rt_body.specs.Registers.{HasAddressRegister, HasOperandRegister, HasRegisters}
use Rattle.rt_liveness.specs.declared.call.Call.{Call}
use Rattle.rt_liveness.specs.Calls.{gives_result, taken_registers, takes_register}
use Rattle.rt_frame.specs.declared.addition.Addition.{Addition}
use Rattle.rt_frame.specs.declared.addition.Addition.TheVariants as addition
use Rattle.rt_frame.specs.declared.spot.Spot.{Spot}
use Rattle.rt_frame.specs.declared.spot.Spot.TheVariants as spot
use Rattle.rt_frame.specs.Frames.{spot_at, is_frame}
use Rattle.rt_frame.specs.Questions.{address_value, def_value, is_call_action, is_kept, is_multi, is_real, is_result, results}
use Rattle.rt_frame.specs.Questions.{addition as addition_at}
use Rattle.rt_rows.specs.declared.name.Name.{Name}
use Rattle.rt_rows.specs.declared.name.Name.TheVariants as name
use Rattle.rt_rows.specs.declared.row.Root.{Root}
use Rattle.rt_rows.specs.declared.row.Root.TheVariants as root
use Rattle.rt_rows.specs.declared.row.Row.{Row}
use Rattle.rt_rows.specs.declared.row.Row.TheVariants as row
use Rattle.rt_rows.specs.declared.row.Term.{Term}
use Rattle.rt_rows.specs.Terms.{IsGroupTerm, along, is_group_side, named, root_names, row_names}
use Rattle.rt_scheme.specs.Instances.{instance_ports}
use Rattle.rt_scheme.specs.Ports.{has_port}
use Rattle.rt_lines.specs.declared.label.Loc.TheVariants.{Arg, Stack}
use Rattle.rt_lines.specs.declared.label.Label.{Label}
use Rattle.rt_lines.specs.declared.label.Label.TheVariants as label
use Rattle.rt_table.specs.declared.item.Item.{Item}
use Rattle.rt_table.specs.declared.item.Item.TheVariants as item
use Rattle.rt_table.specs.declared.pointer.Pointer.{Pointer}
use Rattle.rt_table.specs.declared.pointer.Pointer.TheVariants.{Through, InFrame, Nowhere}
use Rattle.rt_table.specs.declared.side.Side.{Side}
use Rattle.rt_table.specs.declared.side.Side.TheVariants.{Variable, Code}
use Rattle.rt_table.specs.Inside.Named.{IsItemWithin, IsNameWithin, IsRowWithin}
use Rattle.rt_table.specs.Table.{Context, Linked, Target, Member, Scheme, Held, Unknown, Writes, ends, places, writes, opens, addition_rows, argument, argument_flow, at_side, below, call_by, calls_from, calls_of, compute_rows, def_side, def_written, definition, entry_side, exists_if_none, first_closed, flow, flow_or_exists, if_first, if_nothing_added, if_zero, indexed, is_argument, is_call_site, is_closed, is_covered, is_stack_word, items_from, kept_rows, left_role, linked_at, load_in_frame, load_rows, load_through, load_word, loaded_bits, loaded_role, merge_name, merge_rows, object, operand_rows, pointer, pointer_call, pointer_result, port, port_arguments, port_of, port_of_member, port_registers, port_words, read_into, register_arguments, register_pointer, result_above, result_by, result_role, result_rows, returned, right_role, role_row, side_of, site_items, site_rows, spot_flow, spot_pointer, stack_argument, stack_arguments, stack_flow, store_rows, store_through, stored_side, symbol_side, tail_result, tail_results, target_at, through, told, unknown_result, use_side, value_pointer, value_side, width_bits, word_defs, word_flow, written_by, written_side}

-- the symbol of a value is a global of some kind
abbrev pub HasGlobal : (ℕ → Type 0) → Value → Type 0
HasGlobal G (value.Sym symbol offset) = G symbol
HasGlobal G other = Unit {0}

-- so is that of an address
abbrev pub HasGlobalIn : (ℕ → Type 0) → Address → Type 0
HasGlobalIn G (address.Symbol symbol addend) = G symbol
HasGlobalIn G (address.Register register immediate) = Unit {0}

abbrev pub HasGlobals : (ℕ → Type 0) → Action → Type 0
HasGlobals G (action.Load loaded to address) = HasGlobalIn G address
HasGlobals G (action.Store width stored address) = HasGlobalIn G address
HasGlobals G other = Unit {0}

-- a register that a call goes through is one of x0 to x31
abbrev pub HasHeldRegister : Target → Type 0
HasHeldRegister (Held register) = register < 32
HasHeldRegister other = Unit {0}

-- what is known of a procedure: its constants are of some kind, and the symbols that it speaks of are globals of some kind
pub record IsSound (context : Context) (G : ℕ → Type 0) (C : ℕ → Type 0) : Type 0 where
  pub constants : (role : Role) → C (context.constant role)
  pub registers : All HasRegisters context.reading.actions
  pub addresses : All (HasGlobals G) context.reading.actions
  pub uses : (site r : ℕ) → site < length context.reading.actions → r < 32 → HasGlobal G (context.reading.value_at site r)
  pub defs : (site r : ℕ) → site < length context.reading.actions → r < 32 → All (λ d. HasGlobal G (def_value context.reading r d)) (context.reading.reaching site r)
  pub held : (site i : ℕ) → HasHeldRegister (target_at (linked_at context site) i)

pub global-plus : (G : ℕ → Type 0) (v : Value) (k : ℤ) → HasGlobal G v → HasGlobal G (plus v k)
global-plus G (value.Const n) k h = tt
global-plus G (value.Sym symbol offset) k h = h
global-plus G (value.Frame offset) k h = tt
global-plus G (value.Entry r offset) k h = tt
global-plus G (value.At site r offset) k h = tt
global-plus G value.Multi k h = tt

-- a root is a procedure, such a global, or what stands for a merge of the procedure's registers at its sites or no merge
abbrev pub IsRootIn : Context → (ℕ → Type 0) → Root → Type 0
IsRootIn context G (root.Proc p) = Unit {0}
IsRootIn context G (root.Global g) = G g
IsRootIn context G (root.Outer n) = Unit {0}
IsRootIn context G (root.Named n) = IsNameWithin (length context.reading.actions) n

-- a term of such a root, as a group's lines may have it
abbrev pub IsTermIn : Context → (ℕ → Type 0) → Term → Type 0
IsTermIn context G x = IsRootIn context G x.root × IsGroupTerm x

pub along_side : (r : Root) (w letters : List Label) → IsTrue (is_group_side r w) → IsTrue (is_group_side r (w ++ letters))
along_side (root.Proc p) [] letters h = cc
along_side (root.Proc p) (label.In l ∷ w) letters h = refl
along_side (root.Proc p) (label.Out n ∷ w) letters h = refl
along_side (root.Proc p) (label.Load ∷ w) letters h = cc
along_side (root.Proc p) (label.Store ∷ w) letters h = cc
along_side (root.Proc p) (label.Field b k ∷ w) letters h = cc
along_side (root.Global g) w letters h = refl
along_side (root.Outer n) w letters h = cc
along_side (root.Named n) w letters h = refl

-- a label of an argument; its register is one of x0 to x31
abbrev IsArgument : Label → Type 0
IsArgument (label.In (Arg n)) = 10 + n < 32
IsArgument (label.In (Stack k)) = Unit {0}
IsArgument other = ⊥

abbrev IsArgumentRegister : ℕ → Type 0
IsArgumentRegister register = 10 + (register - 10) < 32

pub argument_registers : All IsArgumentRegister (10 ∷ 11 ∷ 12 ∷ 13 ∷ 14 ∷ 15 ∷ 16 ∷ 17 ∷ [])
argument_registers =
    All-cons IsArgumentRegister 10 (11 ∷ 12 ∷ 13 ∷ 14 ∷ 15 ∷ 16 ∷ 17 ∷ []) (lit< tt) (All-cons IsArgumentRegister 11 (12 ∷ 13 ∷ 14 ∷ 15 ∷ 16 ∷ 17 ∷ []) (lit< tt) (All-cons IsArgumentRegister 12 (13 ∷ 14 ∷ 15 ∷ 16 ∷ 17 ∷ []) (lit< tt) (All-cons IsArgumentRegister 13 (14 ∷ 15 ∷ 16 ∷ 17 ∷ []) (lit< tt) (All-cons IsArgumentRegister 14 (15 ∷ 16 ∷ 17 ∷ []) (lit< tt) (All-cons IsArgumentRegister 15 (16 ∷ 17 ∷ []) (lit< tt) (All-cons IsArgumentRegister 16 (17 ∷ []) (lit< tt) (All-cons IsArgumentRegister 17 ([]) (lit< tt) (All-nil IsArgumentRegister))))))))

abbrev IsArgumentNumber : ℕ → Type 0
IsArgumentNumber n = 10 + n < 32

pub argument_numbers : All IsArgumentNumber (0 ∷ 1 ∷ 2 ∷ 3 ∷ 4 ∷ 5 ∷ 6 ∷ 7 ∷ [])
argument_numbers =
    All-cons IsArgumentNumber 0 (1 ∷ 2 ∷ 3 ∷ 4 ∷ 5 ∷ 6 ∷ 7 ∷ []) (lit< tt) (All-cons IsArgumentNumber 1 (2 ∷ 3 ∷ 4 ∷ 5 ∷ 6 ∷ 7 ∷ []) (lit< tt) (All-cons IsArgumentNumber 2 (3 ∷ 4 ∷ 5 ∷ 6 ∷ 7 ∷ []) (lit< tt) (All-cons IsArgumentNumber 3 (4 ∷ 5 ∷ 6 ∷ 7 ∷ []) (lit< tt) (All-cons IsArgumentNumber 4 (5 ∷ 6 ∷ 7 ∷ []) (lit< tt) (All-cons IsArgumentNumber 5 (6 ∷ 7 ∷ []) (lit< tt) (All-cons IsArgumentNumber 6 (7 ∷ []) (lit< tt) (All-cons IsArgumentNumber 7 ([]) (lit< tt) (All-nil IsArgumentNumber))))))))

pub register_labels : (call : Call) → All IsArgument (register_arguments call)
register_labels call =
    All-map IsArgument (λ (register : ℕ). label.In (Arg (register - 10))) (taken_registers call)
    (λ k d less. All-filter (takes_register call) IsArgumentRegister (10 ∷ 11 ∷ 12 ∷ 13 ∷ 14 ∷ 15 ∷ 16 ∷ 17 ∷ []) argument_registers k d less)

pub stack_labels : (words : List ℕ) → All IsArgument (stack_arguments words)
stack_labels words = All-map IsArgument (λ (k : ℕ). label.In (Stack k)) words (λ k d less. tt)

pub port_labels : (ports : List (Label × ℕ)) (covered : Option ℕ) → All IsArgument (port_arguments ports covered)
port_labels ports covered =
    All-append IsArgument (map (λ (n : ℕ). label.In (Arg n)) (port_registers ports covered)) (stack_arguments (port_words ports))
    (All-map IsArgument (λ (n : ℕ). label.In (Arg n)) (port_registers ports covered)
    (λ k d less. All-filter (λ (n : ℕ). has_port ports (label.In (Arg n)) || is_covered covered n) IsArgumentNumber (0 ∷ 1 ∷ 2 ∷ 3 ∷ 4 ∷ 5 ∷ 6 ∷ 7 ∷ []) argument_numbers k d less))
    (stack_labels (port_words ports))

-- the first closed merge among names is one of them
pub first-closed-of : (P : Name → Type 0) (open_names names : List Name) (merge : Name) → first_closed open_names names ≡ Some merge → All P names → P merge
first-closed-of P open_names [] merge e h = cc
first-closed-of P open_names (x ∷ names) merge e h =
    elim (is_closed open_names x) as (λ b. cond b (Some x) (first_closed open_names names) ≡ Some merge → P merge) [
      | true ↦ λ (same : Some x ≡ Some merge). (let is : x ≡ merge = cc in subst P is (All-head P x names h))
      | false ↦ λ (later : first_closed open_names names ≡ Some merge). first-closed-of P open_names names merge later (All-tail P x names h)
    ]
    e

module _ (context : Context) (G : ℕ → Type 0) (C : ℕ → Type 0) where
  abbrev sites : ℕ
  sites = length context.reading.actions

  abbrev IsTerm : Term → Type 0
  IsTerm x = IsTermIn context G x

  abbrev pub IsGood : Row → Type 0
  IsGood (row.Var x) = IsTerm x
  IsGood (row.Same x y) = IsTerm x × IsTerm y
  IsGood (row.Sub x y) = IsTerm x × IsTerm y
  IsGood (row.Low k x) = C k × IsTerm x
  IsGood (row.Up x k) = IsTerm x × C k

  -- so is a row among items
  abbrev pub IsGoodItem : Item → Type 0
  IsGoodItem (item.Told x) = IsGood x
  IsGoodItem (item.Instance site i) = Unit {0}

  abbrev IsSide : Option Side → Type 0
  IsSide None = Unit {0}
  IsSide (Some Code) = Unit {0}
  IsSide (Some (Variable x)) = IsTerm x

  abbrev IsPointer : Pointer → Type 0
  IsPointer (Through d k) = IsTerm d
  IsPointer (InFrame k) = Unit {0}
  IsPointer Nowhere = Unit {0}

  none : All IsGood []
  none = All-nil IsGood

  one : (r : Row) → IsGood r → All IsGood (r ∷ [])
  one r h = All-cons IsGood r [] h none

  both : (xs ys : List Row) → All IsGood xs → All IsGood ys → All IsGood (xs ++ ys)
  both xs ys h k = All-append IsGood xs ys h k

  longer : (x : Term) (letters : List Label) → IsTerm x → IsTerm (along x letters)
  longer x letters h = (h.0, along_side x.root x.word letters h.1)

  -- the names of such a row
  pub good-names : (r : Row) → IsGood r → All (IsNameWithin sites) (row_names r)
  good-names r h = by r h
    where
      of : (x : Root) → IsRootIn context G x → All (IsNameWithin sites) (root_names x)
      of (root.Proc p) h = All-nil (IsNameWithin sites)
      of (root.Global g) h = All-nil (IsNameWithin sites)
      of (root.Outer n) h = All-nil (IsNameWithin sites)
      of (root.Named n) h = All-cons (IsNameWithin sites) n [] h (All-nil (IsNameWithin sites))

      by : (r : Row) → IsGood r → All (IsNameWithin sites) (row_names r)
      by (row.Var x) h = of x.root h.0
      by (row.Same x y) h = All-append (IsNameWithin sites) (root_names x.root) (root_names y.root) (of x.root h.0.0) (of y.root h.1.0)
      by (row.Sub x y) h = All-append (IsNameWithin sites) (root_names x.root) (root_names y.root) (of x.root h.0.0) (of y.root h.1.0)
      by (row.Low k x) h = of x.root h.1.0
      by (row.Up x k) h = of x.root h.0.0

  -- Sides.

  zero_side : (offset : ℤ) (side : Side) → IsSide (Some side) → IsSide (if_zero offset side)
  zero_side offset side h = elim (int_eq offset (pos 0)) as (λ b. IsSide (cond b (Some side) None)) [ true ↦ h | false ↦ tt ]

  nothing_added : (offset : ℤ) (side : Option Side) → IsSide side → IsSide (if_nothing_added offset side)
  nothing_added offset side h = elim (int_eq offset (pos 0)) as (λ b. IsSide (cond b side None)) [ true ↦ h | false ↦ tt ]

  first : (r : ℕ) (side : Side) → IsSide (Some side) → IsSide (if_first r side)
  first zero side h = h
  first (suc r) side h = tt

  entry : (r : ℕ) (offset : ℤ) → IsSide (entry_side context r offset)
  entry r offset =
      elim (is_argument r) as (λ b. IsSide (cond b (if_zero offset (Variable (argument context r))) None))
      [ true ↦ zero_side offset (Variable (argument context r)) (tt, refl) | false ↦ tt ]

  symbol : (g : ℕ) → G g → IsSide (Some (symbol_side context g))
  symbol g h =
      elim (context.is_code g) as (λ b. IsSide (Some (cond b Code (Variable (record { root = root.Global g; word = [] })))))
      [ true ↦ tt | false ↦ (h, refl) ]

  side : (written : ℕ → ℕ → Option Side) → ((site r : ℕ) → IsSide (written site r)) → (own : Name) (v : Value) → IsNameWithin sites own → HasGlobal G v
      → IsSide (value_side context written own v)
  side written w own (value.Entry r offset) o h = entry r offset
  side written w own (value.At site r offset) o h = nothing_added offset (written site r) (w site r)
  side written w own (value.Sym g offset) o h = zero_side offset (symbol_side context g) (symbol g h)
  side written w own (value.Frame k) o h = (tt, refl)
  side written w own value.Multi o h = (o, refl)
  side written w own (value.Const n) o h = tt

  -- what a call wrote, by the sides of uses
  pointer_results : (site i : ℕ) (o : Option Side) → IsSide o → IsSide (Some (pointer_result context site i o))
  pointer_results site i None h = (tt, refl)
  pointer_results site i (Some Code) h = (tt, refl)
  pointer_results site i (Some (Variable x)) h = longer x (label.Out 0 ∷ []) h

  module _ (uses : ℕ → ℕ → Option Side) (u : (site r : ℕ) → site < sites → r < 32 → IsSide (uses site r)) where
    results_by : (site i r : ℕ) (call : Call) (target : Target) → site < sites → HasHeldRegister target → IsSide (result_by context uses site i r call target)
    results_by site i r call (Member q words) less h =
        elim (gives_result call r) as (λ b. IsSide (cond b (Some (Variable (port_of_member q (label.Out r)))) None)) [ true ↦ (tt, refl) | false ↦ tt ]
    results_by site i r call (Scheme own lines covered) less h =
        elim (has_port (instance_ports own lines 0) (label.Out r)) as (λ b. IsSide (cond b (Some (Variable (port_of context site i (label.Out r)))) None))
        [ true ↦ (tt, refl) | false ↦ tt ]
    results_by site i r call (Held register) less h = first r (pointer_result context site i (uses site register)) (pointer_results site i (uses site register) (u site register less h))
    results_by site i r call Unknown less h = first r (unknown_result context site i) (tt, refl)

    writings : (site r : ℕ) (here : List Linked) → site < sites → ((i : ℕ) → HasHeldRegister (target_at here i)) → IsSide (written_by context uses site r here)
    writings site r [] less h = tt
    writings site r (linked ∷ more) less h =
        elim (nat_le 10 r && nat_le r 11) as (λ b. IsSide (cond b (result_by context uses site 0 (r - 10) linked.call linked.target) None))
        [ true ↦ results_by site 0 (r - 10) linked.call linked.target less (h 0) | false ↦ tt ]

    written_good : ((site i : ℕ) → HasHeldRegister (target_at (linked_at context site) i)) → (site r : ℕ) → IsSide (written_side context uses site r)
    written_good held site r = by (cases_lt site sites)
      where
        definition_good : IsSide (Some (Variable (definition context site r)))
        definition_good = (tt, refl)

        by : (site < sites) ⊎ (sites ≤ site) → IsSide (written_side context uses site r)
        by (inl less) =
            elim (is_call_site context site) as (λ b. IsSide (cond b (written_by context uses site r (linked_at context site)) (Some (Variable (definition context site r)))))
            [ true ↦ writings site r (linked_at context site) less (held site) | false ↦ definition_good ]
        by (inr past) =
            subst (λ act. IsSide (cond (is_call_action act) (written_by context uses site r (linked_at context site)) (Some (Variable (definition context site r)))))
            (sym (get_or_past context.reading.actions site action.Pass past)) definition_good

  module _ (s : IsSound context G C) where
    at_good : (steps site r : ℕ) → IsSide (at_side steps context site r)
    at_good zero site r = tt
    at_good (suc steps) site r =
        written_good (λ (s r : ℕ). value_side context (at_side steps context) (merge_name context s r) (context.reading.value_at s r))
        (λ q r i j. side (at_side steps context) (at_good steps) (merge_name context q r) (context.reading.value_at q r) (i, j) (s.uses q r i j))
        s.held site r

    valued : (own : Name) (v : Value) → IsNameWithin sites own → HasGlobal G v → IsSide (side_of context own v)
    valued own v o h = side (def_written context) (at_good sites) own v o h

    def_good : (r : ℕ) (d : Def) → HasGlobal G (def_value context.reading r d) → IsSide (def_side context r d)
    def_good r def.Entry h = valued (name.Definition context.procedure 0 r) (def_value context.reading r def.Entry) tt h
    def_good r (def.At site) h = valued (name.Definition context.procedure site r) (def_value context.reading r (def.At site)) tt h

    used : (site r : ℕ) → site < sites → r < 32 → IsSide (use_side context site r)
    used site r i j = valued (merge_name context site r) (context.reading.value_at site r) (i, j) (s.uses site r i j)

    -- Rows.

    flows : (o : Option Side) (y : Term) → IsSide o → IsTerm y → All IsGood (flow context o y)
    flows None y h k = none
    flows (Some Code) y h k = one (row.Low (context.constant role.Code) y) (s.constants role.Code, k)
    flows (Some (Variable x)) y h k = one (row.Sub x y) (h, k)

    flows_or : (o : Option Side) (y : Term) → IsSide o → IsTerm y → All IsGood (flow_or_exists context o y)
    flows_or None y h k = one (row.Var y) k
    flows_or (Some Code) y h k = flows (Some Code) y h k
    flows_or (Some (Variable x)) y h k = flows (Some (Variable x)) y h k

    belows : (r : Role) (o : Option Side) → IsSide o → All IsGood (below context r o)
    belows r None h = none
    belows r (Some Code) h = none
    belows r (Some (Variable x)) h = one (row.Up x (context.constant r)) (h, s.constants r)

    results_above : (r : Role) (site to : ℕ) → All IsGood (result_above context r site to)
    results_above r site to =
        elim (nat_eq to 0) as (λ b. All IsGood (cond b [] (row.Low (context.constant r) (definition context site to) ∷ [])))
        [ true ↦ none | false ↦ one (row.Low (context.constant r) (definition context site to)) (s.constants r, (tt, refl)) ]

    each : (y : Term) (r : ℕ) → IsTerm y → (ds : List Def) → All (λ d. HasGlobal G (def_value context.reading r d)) ds
        → All IsGood (flat_map (λ d. flow context (def_side context r d) y) ds)
    each y r k [] h = none
    each y r k (d ∷ ds) h =
        both (flow context (def_side context r d) y) (flat_map (λ e. flow context (def_side context r e) y) ds)
        (flows (def_side context r d) y (def_good r d (All-head (λ e. HasGlobal G (def_value context.reading r e)) d ds h)) k)
        (each y r k ds (All-tail (λ e. HasGlobal G (def_value context.reading r e)) d ds h))

    -- Addresses.

    throughs : (o : Option Side) (k : ℤ) → IsSide o → IsPointer (through o k)
    throughs None k h = tt
    throughs (Some Code) k h = tt
    throughs (Some (Variable x)) k h = h

    spots : (p : Spot) → IsPointer (spot_pointer context p)
    spots (spot.OnObject start distance) = (tt, refl)
    spots (spot.Location k) = tt

    values : (v : Value) → HasGlobal G v → IsPointer (value_pointer context v)
    values (value.Entry r offset) h =
        elim (is_argument r) as (λ b. IsPointer (cond b (Through (argument context r) offset) Nowhere)) [ true ↦ (tt, refl) | false ↦ tt ]
    values (value.At site r offset) h = throughs (def_written context site r) offset (at_good sites site r)
    values (value.Sym g offset) h = throughs (Some (symbol_side context g)) offset (symbol g h)
    values (value.Frame k) h = spots (spot_at context.frame.layout k)
    values (value.Const n) h = tt
    values value.Multi h = tt

    pointers : (site : ℕ) (a : Address) → site < sites → HasAddressRegister a → HasGlobalIn G a → IsPointer (pointer context site a)
    pointers site (address.Symbol g addend) i r h = values (value.Sym g addend) h
    pointers site (address.Register q k) i r h =
        elim (is_multi (context.reading.value_at site q)) as (λ b. IsPointer (cond b (Through (named (merge_name context site q)) k) (value_pointer context (plus (context.reading.value_at site q) k))))
        [ true ↦ ((i, r), refl) | false ↦ values (plus (context.reading.value_at site q) k) (global-plus G (context.reading.value_at site q) k (s.uses site q i r)) ]

    -- Loads and stores.

    reads : (site to : ℕ) (x : Term) → IsTerm x → IsGood (read_into context site to x)
    reads site to x h =
        elim (nat_eq to 0) as (λ b. IsGood (cond b (row.Var x) (row.Sub x (definition context site to)))) [ true ↦ h | false ↦ (h, (tt, refl)) ]

    role_rows : (o : Option Role) (x : Term) → IsTerm x → All IsGood (role_row context o x)
    role_rows None x h = none
    role_rows (Some r) x h = one (row.Up x (context.constant r)) (h, s.constants r)

    stored_in : (k : ℤ) (site : ℕ) (act : Action) → site < sites → HasRegisters act → IsSide (stored_side context k site act)
    stored_in k site (action.Store width.Word stored to) i h =
        elim (is_frame k (address_value context.reading site to)) as (λ b. IsSide (cond b (use_side context site stored) None))
        [ true ↦ used site stored i h.0 | false ↦ tt ]
    stored_in k site (action.Store width.Half stored to) i h = tt
    stored_in k site (action.Store width.Byte stored to) i h = tt
    stored_in k site (action.Constant to v) i h = tt
    stored_in k site (action.Symbol to g a) i h = tt
    stored_in k site (action.AddImmediate to from n) i h = tt
    stored_in k site (action.Add to left right) i h = tt
    stored_in k site (action.Load l to a) i h = tt
    stored_in k site (action.Compute o to left right) i h = tt
    stored_in k site (action.Compare left right) i h = tt
    stored_in k site (action.Write to) i h = tt
    stored_in k site action.Pass i h = tt
    stored_in k site (action.Call callee link) i h = tt
    stored_in k site action.Return i h = tt
    stored_in k site action.Stop i h = tt

    stored_at : (k : ℤ) (site : ℕ) → IsSide (stored_side context k site (action_at context.reading.actions site))
    stored_at k site = by (cases_lt site sites)
      where
        by : (site < sites) ⊎ (sites ≤ site) → IsSide (stored_side context k site (action_at context.reading.actions site))
        by (inl i) = stored_in k site (action_at context.reading.actions site) i (s.registers site action.Pass i)
        by (inr i) = subst (λ act. IsSide (stored_side context k site act)) (sym (get_or_past context.reading.actions site action.Pass i)) tt

    word_flows : (k : ℤ) (y : Term) (d : Def) → IsTerm y → All IsGood (word_flow context k y d)
    word_flows k y def.Entry h =
        elim (is_stack_word k) as (λ b. All IsGood (cond b (row.Sub (stack_argument context k) y ∷ []) []))
        [ true ↦ one (row.Sub (stack_argument context k) y) ((tt, refl), h) | false ↦ none ]
    word_flows k y (def.At site) h = flows (stored_side context k site (action_at context.reading.actions site)) y (stored_at k site) h

    words : (k : ℤ) (y : Term) (ds : List Def) → IsTerm y → All IsGood (flat_map (word_flow context k y) ds)
    words k y [] h = none
    words k y (d ∷ ds) h = both (word_flow context k y d) (flat_map (word_flow context k y) ds) (word_flows k y d h) (words k y ds h)

    load_words : (site to : ℕ) (k : ℤ) → All IsGood (load_word context site to k)
    load_words site to k =
        elim (nat_eq to 0) as (λ b. All IsGood (cond b [] (flat_map (word_flow context k (definition context site to)) (word_defs context site k))))
        [ true ↦ none | false ↦ words k (definition context site to) (word_defs context site k) (tt, refl) ]

    loads_in_frame : (site : ℕ) (l : Loaded) (to : ℕ) (k : ℤ) → All IsGood (load_in_frame context site l to k)
    loads_in_frame site loaded.Word to k = load_words site to k
    loads_in_frame site loaded.SignedHalf to k = none
    loads_in_frame site loaded.Half to k = none
    loads_in_frame site loaded.SignedByte to k = none
    loads_in_frame site loaded.Byte to k = none

    loads_through : (site : ℕ) (l : Loaded) (to : ℕ) (d : Term) (k : ℤ) → IsTerm d → All IsGood (load_through context site l to d k)
    loads_through site l to d k h =
        let x = along d (label.Load ∷ label.Field (loaded_bits l) k ∷ []) in
        let long : IsTerm x = longer d (label.Load ∷ label.Field (loaded_bits l) k ∷ []) h in
        All-cons IsGood (read_into context site to x) (role_row context (loaded_role l) x) (reads site to x long) (role_rows (loaded_role l) x long)

    loads : (site : ℕ) (l : Loaded) (to : ℕ) (p : Pointer) → IsPointer p → All IsGood (load_rows context site l to p)
    loads site l to (Through d k) h = loads_through site l to d k h
    loads site l to (InFrame k) h = loads_in_frame site l to k
    loads site l to Nowhere h = none

    stores_through : (site : ℕ) (w : Width) (stored : ℕ) (d : Term) (k : ℤ) → site < sites → stored < 32 → IsTerm d → All IsGood (store_through context site w stored d k)
    stores_through site width.Word stored d k i j h = flows_or (use_side context site stored) (along d (label.Store ∷ label.Field 32 k ∷ [])) (used site stored i j) (longer d (label.Store ∷ label.Field 32 k ∷ []) h)
    stores_through site width.Half stored d k i j h = one (row.Var (along d (label.Store ∷ label.Field (width_bits width.Half) k ∷ []))) (longer d (label.Store ∷ label.Field (width_bits width.Half) k ∷ []) h)
    stores_through site width.Byte stored d k i j h = one (row.Var (along d (label.Store ∷ label.Field (width_bits width.Byte) k ∷ []))) (longer d (label.Store ∷ label.Field (width_bits width.Byte) k ∷ []) h)

    stores : (site : ℕ) (w : Width) (stored : ℕ) (p : Pointer) → site < sites → stored < 32 → IsPointer p → All IsGood (store_rows context site w stored p)
    stores site w stored (Through d k) i j h = stores_through site w stored d k i j h
    stores site w stored (InFrame k) i j h = none
    stores site w stored Nowhere i j h = none

    -- Computations and returns.

    index_rows : (site to other index : ℕ) → site < sites → other < 32 → index < 32 → All IsGood (indexed context site to other index)
    index_rows site to other index i j k =
        both (cond (nat_eq to 0) [] (flow context (use_side context site other) (definition context site to))) (below context role.Num32 (use_side context site index))
        (elim (nat_eq to 0) as (λ b. All IsGood (cond b [] (flow context (use_side context site other) (definition context site to))))
        [ true ↦ none | false ↦ flows (use_side context site other) (definition context site to) (used site other i j) (tt, refl) ])
        (belows role.Num32 (use_side context site index) (used site index i k))

    additions : (site to left right : ℕ) (a : Addition) → site < sites → left < 32 → right < 32 → All IsGood (addition_rows context site to left right a)
    additions site to left right addition.IndexLeft i j k = index_rows site to right left i k j
    additions site to left right addition.IndexRight i j k = index_rows site to left right i j k
    additions site to left right addition.Indices i j k =
        both (below context role.Num32 (use_side context site left) ++ below context role.Num32 (use_side context site right)) (result_above context role.Num32 site to)
        (both (below context role.Num32 (use_side context site left)) (below context role.Num32 (use_side context site right))
        (belows role.Num32 (use_side context site left) (used site left i j)) (belows role.Num32 (use_side context site right) (used site right i k)))
        (results_above role.Num32 site to)
    additions site to left right addition.Untold i j k = none

    operands : (site : ℕ) (o : Option ℕ) (r : Option Role) → site < sites → HasOperandRegister o → All IsGood (operand_rows context site o r)
    operands site None r i h = none
    operands site (Some register) None i h = none
    operands site (Some register) (Some r) i h = belows r (use_side context site register) (used site register i h)

    computes : (site : ℕ) (o : Operation) (to left : ℕ) (right : Option ℕ) → site < sites → left < 32 → HasOperandRegister right → All IsGood (compute_rows context site o to left right)
    computes site o to left right i j h =
        both (operand_rows context site (Some left) (left_role o) ++ operand_rows context site right (right_role o)) (result_above context (result_role o) site to)
        (both (operand_rows context site (Some left) (left_role o)) (operand_rows context site right (right_role o)) (operands site (Some left) (left_role o) i j) (operands site right (right_role o) i h))
        (results_above (result_role o) site to)

    exists : (y : Term) (rows : List Row) → IsTerm y → All IsGood rows → All IsGood (exists_if_none y rows)
    exists y [] k h = one (row.Var y) k
    exists y (r ∷ rows) k h = h

    return_rows : (y : Term) (r : ℕ) (ds : List Def) → IsTerm y → All (λ d. HasGlobal G (def_value context.reading r d)) ds → All IsGood (returned context y r ds)
    return_rows y r [] k h = none
    return_rows y r (d ∷ ds) k h = exists y (flat_map (λ e. flow context (def_side context r e) y) (d ∷ ds)) k (each y r k (d ∷ ds) h)

    result_defs : (site r : ℕ) → site < sites → r < 32 → All (λ d. HasGlobal G (def_value context.reading r d)) (results context.reading (calls_of context) site r)
    result_defs site r i j =
        elim (list_any (is_real context.reading (calls_of context) r) (context.reading.reaching site r))
        as (λ b. All (λ d. HasGlobal G (def_value context.reading r d)) (cond b (filter (is_result context.reading (calls_of context) r) (context.reading.reaching site r)) [])) [
          | true ↦ All-filter (is_result context.reading (calls_of context) r) (λ d. HasGlobal G (def_value context.reading r d)) (context.reading.reaching site r) (s.defs site r i j)
          | false ↦ All-nil (λ d. HasGlobal G (def_value context.reading r d))
        ]

    results_good : (site r : ℕ) → site < sites → 10 + r < 32 → All IsGood (result_rows context site r)
    results_good site r i j =
        return_rows (port context (label.Out r)) (10 + r) (results context.reading (calls_of context) site (10 + r)) (tt, refl) (result_defs site (10 + r) i j)

    -- Sites.

    kept : (site to from : ℕ) (b : Bool) → site < sites → from < 32 → All IsGood (kept_rows context site to from b)
    kept site to from true i j = flows (use_side context site from) (definition context site to) (used site from i j) (tt, refl)
    kept site to from false i j = none

    at_site : (site : ℕ) (act : Action) → site < sites → HasRegisters act → HasGlobals G act → All IsGood (site_rows context site act)
    at_site site (action.AddImmediate to from n) i h g = kept site to from (is_kept context.reading site to from n) i h.1
    at_site site (action.Add to left right) i h g = additions site to left right (addition_at context.reading site left right) i h.1.0 h.1.1
    at_site site (action.Load l to a) i h g = loads site l to (pointer context site a) (pointers site a i h.1 g)
    at_site site (action.Store w stored a) i h g = stores site w stored (pointer context site a) i h.0 (pointers site a i h.1 g)
    at_site site (action.Compute o to left right) i h g = computes site o to left right i h.1.0 h.1.1
    at_site site (action.Compare left right) i h g =
        both (below context role.Sint32 (use_side context site left)) (below context role.Sint32 (use_side context site right))
        (belows role.Sint32 (use_side context site left) (used site left i h.0)) (belows role.Sint32 (use_side context site right) (used site right i h.1))
    at_site site action.Return i h g =
        both (result_rows context site 0) (result_rows context site 1) (results_good site 0 i (lit< tt)) (results_good site 1 i (lit< tt))
    at_site site (action.Constant to v) i h g = none
    at_site site (action.Symbol to x a) i h g = none
    at_site site (action.Write to) i h g = none
    at_site site action.Pass i h g = none
    at_site site (action.Call callee link) i h g = none
    at_site site action.Stop i h g = none

    -- Calls.

    spot_flows : (site : ℕ) (y : Term) (p : Spot) → IsTerm y → All IsGood (spot_flow context site y p)
    spot_flows site y (spot.Location k) h = words k y (word_defs context site k) h
    spot_flows site y (spot.OnObject start distance) h = none

    stack_flows : (site k : ℕ) (y : Term) (v : Value) → IsTerm y → All IsGood (stack_flow context site k y v)
    stack_flows site k y (value.Frame m) h = spot_flows site y (spot_at context.frame.layout (int_wrap w32 (m +ℤ pos k))) h
    stack_flows site k y (value.Const n) h = none
    stack_flows site k y (value.Sym g offset) h = none
    stack_flows site k y (value.Entry r offset) h = none
    stack_flows site k y (value.At q r offset) h = none
    stack_flows site k y value.Multi h = none

    argument_flows : (site : ℕ) (l : Label) (y : Term) → site < sites → IsArgument l → IsTerm y → All IsGood (argument_flow context site l y)
    argument_flows site (label.In (Arg n)) y i a h = flows (use_side context site (10 + n)) y (used site (10 + n) i a) h
    argument_flows site (label.In (Stack k)) y i a h = stack_flows site k y (context.reading.value_at site 2) h
    argument_flows site other y i a h = absurd a

    passed : (site : ℕ) (y : Label → Term) → ((l : Label) → IsArgument l → IsTerm (y l)) → (ls : List Label) → site < sites → All IsArgument ls
        → All IsGood (flat_map (λ (l : Label). argument_flow context site l (y l)) ls)
    passed site y h [] i a = none
    passed site y h (l ∷ ls) i a =
        let first_is : IsArgument l = All-head IsArgument l ls a in
        both (argument_flow context site l (y l)) (flat_map (λ (m : Label). argument_flow context site m (y m)) ls)
        (argument_flows site l (y l) i first_is (h l first_is)) (passed site y h ls i (All-tail IsArgument l ls a))

    member_port : (q : ℕ) (l : Label) → IsArgument l → IsTerm (port_of_member q l)
    member_port q (label.In l) a = (tt, refl)
    member_port q other a = absurd a

    tells : (rows : List Row) → All IsGood rows → All IsGoodItem (told rows)
    tells rows h = All-map IsGoodItem item.Told rows h

    pointer_calls : (site : ℕ) (call : Call) (o : Option Side) → site < sites → IsSide o → All IsGood (pointer_call context site call o)
    pointer_calls site call None i h = none
    pointer_calls site call (Some Code) i h = none
    pointer_calls site call (Some (Variable x)) i h =
        let rest = flat_map (λ (l : Label). argument_flow context site l (along x (l ∷ []))) (register_arguments call) in
        All-cons IsGood (row.Up x (context.constant role.Code)) rest (h, s.constants role.Code)
        (passed site (λ (l : Label). along x (l ∷ [])) (λ l a. longer x (l ∷ []) h) (register_arguments call) i (register_labels call))

    calls_by : (site i : ℕ) (call : Call) (target : Target) → site < sites → HasHeldRegister target → All IsGoodItem (call_by context site i call target)
    calls_by site i call (Member q words) less h =
        tells (flat_map (λ (l : Label). argument_flow context site l (port_of_member q l)) (register_arguments call ++ stack_arguments words))
        (passed site (λ (l : Label). port_of_member q l) (member_port q) (register_arguments call ++ stack_arguments words) less
        (All-append IsArgument (register_arguments call) (stack_arguments words) (register_labels call) (stack_labels words)))
    calls_by site i call (Scheme own lines covered) less h =
        let labels = port_arguments (instance_ports own lines 0) covered in
        let rows = flat_map (λ (l : Label). argument_flow context site l (port_of context site i l)) labels in
        All-cons IsGoodItem (item.Instance site i) (told rows) tt
        (tells rows (passed site (λ (l : Label). port_of context site i l) (λ l a. (tt, refl)) labels less
        (port_labels (instance_ports own lines 0) covered)))
    calls_by site i call (Held register) less h =
        tells (pointer_call context site call (use_side context site register)) (pointer_calls site call (use_side context site register) less (used site register less h))
    calls_by site i call Unknown less h = All-nil IsGoodItem

    tail_good : (site i : ℕ) (linked : Linked) (r : ℕ) → site < sites → HasHeldRegister linked.target → All IsGood (tail_result context site i linked r)
    tail_good site i linked r less h =
        let o = result_by context (use_side context) site i r linked.call linked.target in
        elim (gives_result linked.call r) as (λ b. All IsGood (cond b (flow_or_exists context o (port context (label.Out r))) []))
        [ true ↦ flows_or o (port context (label.Out r)) (results_by (use_side context) used site i r linked.call linked.target less h) (tt, refl) | false ↦ none ]

    tails_good : (site i : ℕ) (linked : Linked) (b : Bool) → site < sites → HasHeldRegister linked.target → All IsGood (tail_results context site i linked b)
    tails_good site i linked true less h =
        both (tail_result context site i linked 0) (tail_result context site i linked 1) (tail_good site i linked 0 less h) (tail_good site i linked 1 less h)
    tails_good site i linked false less h = none

    both_items : (xs ys : List Item) → All IsGoodItem xs → All IsGoodItem ys → All IsGoodItem (xs ++ ys)
    both_items xs ys h k = All-append IsGoodItem xs ys h k

    calls_good : (site i : ℕ) (here : List Linked) → site < sites → ((k : ℕ) → HasHeldRegister (target_at here k)) → All IsGoodItem (calls_from context site i here)
    calls_good site i [] less h = All-nil IsGoodItem
    calls_good site i (linked ∷ more) less h =
        let tail = tail_results context site i linked (not (is_call_site context site && nat_eq i 0)) in
        both_items (call_by context site i linked.call linked.target ++ told tail) (calls_from context site (i + 1) more)
        (both_items (call_by context site i linked.call linked.target) (told tail) (calls_by site i linked.call linked.target less (h 0))
        (tells tail (tails_good site i linked (not (is_call_site context site && nat_eq i 0)) less (h 0))))
        (calls_good site (i + 1) more less (λ k. h (suc k)))

    sites_from : (i : ℕ) (acts : List Action) → i + length acts ≤ sites → All HasRegisters acts → All (HasGlobals G) acts → All IsGoodItem (items_from context i acts)
    sites_from i [] n h g = All-nil IsGoodItem
    sites_from i (act ∷ acts) n h g =
        both_items (site_items context i act) (items_from context (i + 1) acts)
        (both_items (told (site_rows context i act)) (calls_from context i 0 (linked_at context i))
        (tells (site_rows context i act) (at_site i act (omega arith) (All-head HasRegisters act acts h) (All-head (HasGlobals G) act acts g)))
        (calls_good i 0 (linked_at context i) (omega arith) (s.held i)))
        (sites_from (i + 1) acts (omega arith) (All-tail HasRegisters act acts h) (All-tail (HasGlobals G) act acts g))

    -- the items of all sites
    pub good-items : All IsGoodItem (items_from context 0 context.reading.actions)
    good-items = sites_from 0 context.reading.actions (omega arith) s.registers s.addresses

    -- Merges.

    -- the rows of a merge
    pub good-merge : (n : Name) → IsNameWithin sites n → All IsGood (merge_rows context n)
    good-merge (name.Merge p site r) h = each (named (name.Merge p site r)) r (h, refl) (context.reading.reaching site r) (s.defs site r h.0 h.1)
    good-merge other h = none

    -- what is written
    pub good-written : {open_names : List Name} {items done : List Item} → Writes context open_names items done → All IsGoodItem items → All IsGoodItem done
    good-written ends h = h
    good-written (places {site} {i} {items} {done} w) h =
        All-cons IsGoodItem (item.Instance site i) done tt (good-written w (All-tail IsGoodItem (item.Instance site i) items h))
    good-written (writes {x} {items} {done} e w) h =
        All-cons IsGoodItem (item.Told x) done (All-head IsGoodItem (item.Told x) items h) (good-written w (All-tail IsGoodItem (item.Told x) items h))
    good-written (opens {open_names} {x} {items} {done} {merge} e w) h =
        good-written w (both_items (told (merge_rows context merge)) (item.Told x ∷ items)
        (tells (merge_rows context merge) (good-merge merge (first-closed-of (IsNameWithin sites) open_names (row_names x) merge e
        (good-names x (All-head IsGoodItem (item.Told x) items h)))))
        h)

pub any_value : (v : Value) → HasGlobal (λ _. Unit {0}) v
any_value (value.Const n) = tt
any_value (value.Sym g offset) = tt
any_value (value.Frame k) = tt
any_value (value.Entry r offset) = tt
any_value (value.At site r offset) = tt
any_value value.Multi = tt

pub any_address : (a : Address) → HasGlobalIn (λ _. Unit {0}) a
any_address (address.Symbol g addend) = tt
any_address (address.Register r k) = tt

pub any_action : (act : Action) → HasGlobals (λ _. Unit {0}) act
any_action (action.Load l to a) = any_address a
any_action (action.Store w stored a) = any_address a
any_action (action.Constant to v) = tt
any_action (action.Symbol to x a) = tt
any_action (action.AddImmediate to from n) = tt
any_action (action.Add to left right) = tt
any_action (action.Compute o to left right) = tt
any_action (action.Compare left right) = tt
any_action (action.Write to) = tt
any_action action.Pass = tt
any_action (action.Call callee link) = tt
any_action action.Return = tt
any_action action.Stop = tt

-- whatever globals and constants are named
pub any-sound : (context : Context) → All HasRegisters context.reading.actions → ((site i : ℕ) → HasHeldRegister (target_at (linked_at context site) i))
    → IsSound context (λ _. Unit {0}) (λ _. Unit {0})
any-sound context h held = record {
  constants = λ r. tt;
  registers = h;
  addresses = λ k d i. any_action (get_or context.reading.actions k d);
  uses = λ site r i j. any_value (context.reading.value_at site r);
  defs = λ site r i j k d l. any_value (def_value context.reading r (get_or (context.reading.reaching site r) k d));
  held = held;
}

within_item : (context : Context) (x : Item) → IsGoodItem context (λ _. Unit {0}) (λ _. Unit {0}) x → IsItemWithin (length context.reading.actions) x
within_item context (item.Told x) h = good-names context (λ _. Unit {0}) (λ _. Unit {0}) x h
within_item context (item.Instance site i) h = tt

-- the merges that the items of sites name are within the procedure
pub items-within : (context : Context) → All HasRegisters context.reading.actions → ((site i : ℕ) → HasHeldRegister (target_at (linked_at context site) i))
    → All (IsItemWithin (length context.reading.actions)) (items_from context 0 context.reading.actions)
items-within context h held =
    λ k d i. within_item context (get_or (items_from context 0 context.reading.actions) k d)
    (good-items context (λ _. Unit {0}) (λ _. Unit {0}) (any-sound context h held) k d i)

-- so are those that the rows of a merge name
pub merge-within : (context : Context) → All HasRegisters context.reading.actions → ((site i : ℕ) → HasHeldRegister (target_at (linked_at context site) i))
    → (n : Name) → IsNameWithin (length context.reading.actions) n → All (IsRowWithin (length context.reading.actions)) (merge_rows context n)
merge-within context h held n e =
    λ k d i. good-names context (λ _. Unit {0}) (λ _. Unit {0}) (get_or (merge_rows context n) k d)
    (good-merge context (λ _. Unit {0}) (λ _. Unit {0}) (any-sound context h held) n e k d i)
