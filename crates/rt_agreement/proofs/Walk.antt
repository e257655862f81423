-- What the rows of a procedure say, where each term in them is of some kind: it is enough that the sides of what is asked of are.
use Rattle.std.proofs.Common.{◌≡◌, ◌<◌, ◌≤◌, ◌+◌, ◌-◌, ◌+ℤ◌, zero, suc, ℕ, ℤ, pos, Bool, true, false, cond, not, nat_eq, nat_le, ◌&&◌, ◌⊎◌, inl, inr, Option, Some, None, List, [], ◌∷◌, ◌++◌, length, get_or, flat_map, map, refl, sym, ap, subst, ◌∙◌, true≢false, arith}
use Rattle.std.specs.Prelude.{All, Contains, slice_index_or}
use Rattle.std.specs.Int.{cast_unsigned, int_wrap, w32}
use Rattle.std.proofs.lemmas.Bool.{cases_lt}
use Rattle.std.proofs.lemmas.Bool.Decides.{nat_tests}
use Rattle.std.proofs.lemmas.List.{get_or_past}
use Rattle.std.proofs.lemmas.List.Elements.{All-nil, All-cons, All-append, All-head, All-map, All-tail, Contains-append_cases, Contains-append_left, Contains-append_right}
use Rattle.rt_base.proofs.Lists.{Contains-here, Contains-there, Contains-map, Contains-map_source, Contains-flat_map, Contains-read, filter-has, filter-source}
use Rattle.rt_lattice.specs.declared.role.Role.{Role}
use Rattle.rt_lattice.specs.declared.role.Role.TheVariants as role
use Rattle.rt_proc.specs.declared.site.Callee.{Callee}
use Rattle.rt_proc.specs.declared.site.Callee.TheVariants as callee
use Rattle.rt_flow.specs.declared.def.Def.{Def}
use Rattle.rt_flow.specs.declared.def.Def.TheVariants as def
use Rattle.rt_track.specs.declared.value.Value.{Value}
use Rattle.rt_track.specs.declared.value.Value.TheVariants as value
use Rattle.rt_body.specs.declared.action.Action.{Action}
use Rattle.rt_body.specs.declared.action.Action.TheVariants as action
use Rattle.rt_body.specs.declared.action.Address.{Address}
use Rattle.rt_body.specs.declared.action.Address.TheVariants as address
use Rattle.rt_body.specs.declared.action.Loaded.{Loaded}
use Rattle.rt_body.specs.declared.action.Loaded.TheVariants as loaded
use Rattle.rt_body.specs.declared.action.Operation.{Operation}
use Rattle.rt_body.specs.declared.action.Operation.TheVariants as operation
use Rattle.rt_body.specs.declared.action.Width.{Width}
use Rattle.rt_body.specs.declared.action.Width.TheVariants as width
use Rattle.rt_body.specs.Readings.{action_at}
use Rattle.rt_liveness.specs.declared.call.Call.{Call}
use Rattle.rt_liveness.specs.Calls.{gives_result, taken_registers, takes_register}
use Rattle.rt_frame.specs.declared.addition.Addition.{Addition}
use Rattle.rt_frame.specs.declared.addition.Addition.TheVariants as addition
use Rattle.rt_frame.specs.declared.question.Question.{Question}
use Rattle.rt_frame.specs.declared.question.Question.TheVariants.{OfUse, OfDefinition}
use Rattle.rt_frame.specs.declared.spot.Spot.{Spot}
use Rattle.rt_frame.specs.declared.spot.Spot.TheVariants as spot
use Rattle.rt_frame.specs.Frames.{spot_at, is_frame}
use Rattle.rt_frame.specs.Questions.{action_questions, addition_questions, address_value, address_questions, call_questions, calls_at, compute_questions, data_questions, is_call_action, is_kept, is_multi, operand, questions, results, target_questions}
use Rattle.rt_frame.specs.Questions.{addition as addition_at}
use Rattle.rt_rows.specs.declared.name.Name.{Name}
use Rattle.rt_rows.specs.declared.name.Name.TheVariants as name
use Rattle.rt_rows.specs.declared.row.Root.{Root}
use Rattle.rt_rows.specs.declared.row.Root.TheVariants as root
use Rattle.rt_rows.specs.declared.row.Row.{Row}
use Rattle.rt_rows.specs.declared.row.Row.TheVariants as row
use Rattle.rt_rows.specs.declared.row.Term.{Term}
use Rattle.rt_rows.specs.Terms.{along, named, root_names, row_names}
use Rattle.rt_scheme.specs.Instances.{instance_ports}
use Rattle.rt_scheme.specs.Ports.{has_port}
use Rattle.rt_lines.specs.declared.label.Loc.TheVariants.{Arg, Stack}
use Rattle.rt_lines.specs.declared.label.Label.{Label}
use Rattle.rt_lines.specs.declared.label.Label.TheVariants as label
use Rattle.rt_table.specs.declared.item.Item.{Item}
use Rattle.rt_table.specs.declared.item.Item.TheVariants as item
use Rattle.rt_table.specs.declared.pointer.Pointer.{Pointer}
use Rattle.rt_table.specs.declared.pointer.Pointer.TheVariants.{Through, InFrame, Nowhere}
use Rattle.rt_table.specs.declared.side.Side.{Side}
use Rattle.rt_table.specs.declared.side.Side.TheVariants.{Variable, Code}
use Rattle.rt_table.specs.Table.{Context, Linked, Target, Member, Scheme, Held, Unknown, Writes, ends, places, writes, opens, addition_rows, argument_flow, below, call_by, calls_from, calls_of, compute_rows, def_side, definition, exists_if_none, flow, flow_or_exists, if_first, indexed, is_call_site, is_stack_word, items_from, kept_rows, left_role, linked_at, load_in_frame, load_rows, load_through, load_word, loaded_bits, loaded_role, merge_rows, operand_rows, pointer, pointer_call, pointer_result, port, port_arguments, port_of, port_of_member, port_registers, port_words, read_into, register_arguments, result_above, result_by, result_role, result_rows, returned, right_role, role_row, site_items, site_rows, spot_flow, stack_argument, stack_arguments, stack_flow, store_rows, store_through, stored_side, tail_result, tail_results, told, unknown_result, use_side, width_bits, word_defs, word_flow, written_by, written_side}
use Rattle.rt_table.proofs.Sound.{first-closed-of}
use Rattle.rt_agreement.specs.Objects.{AreToldCalls, IsAsked, IsToldAs}

-- the term of a side is of a kind
abbrev pub IsSideOf : (Term → Type 0) → Option Side → Type 0
IsSideOf T None = Unit {0}
IsSideOf T (Some Code) = Unit {0}
IsSideOf T (Some (Variable x)) = T x

-- so is that through which an address leads
abbrev pub IsPointerOf : (Term → Type 0) → Pointer → Type 0
IsPointerOf T (Through d k) = T d
IsPointerOf T (InFrame k) = Unit {0}
IsPointerOf T Nowhere = Unit {0}

-- a site loads from an address, or stores there
abbrev pub IsAddressOf : Address → Action → Type 0
IsAddressOf a (action.Load l to address) = a ≡ address
IsAddressOf a (action.Store w stored address) = a ≡ address
IsAddressOf a other = ⊥

-- terms that are of a kind whatever is asked
pub record AreTerms (context : Context) (T : Term → Type 0) : Type 0 where
  pub longer : (x : Term) (letters : List Label) → T x → T (along x letters)
  pub written : (site r : ℕ) → T (definition context site r)
  pub of_port : (site i : ℕ) (l : Label) → T (port_of context site i l)
  pub of_unknown : (site i : ℕ) → T (named (name.Result context.procedure site i))
  pub of_result : (p r : ℕ) → T (port_of_member p (label.Out r))
  pub of_word : (p k : ℕ) → T (port_of_member p (label.In (Stack k)))
  pub of_argument : (site : ℕ) (linked : Linked) (q r : ℕ) (words : List ℕ) → Contains (linked_at context site) linked → linked.target ≡ Member q words
      → Contains (taken_registers linked.call) r → T (port_of_member q (label.In (Arg (r - 10))))

-- terms of what is asked are of a kind
pub record AreKept (context : Context) (T : Term → Type 0) : Type 0 where
  pub terms : AreTerms context T
  pub used : (site r : ℕ) → IsAsked context site (OfUse site r) → IsSideOf T (use_side context site r)
  pub defined : (site r : ℕ) (d : Def) → IsAsked context site (OfDefinition d r) → IsSideOf T (def_side context r d)
  pub addressed : (site : ℕ) (a : Address) → site < length context.reading.actions → IsAddressOf a (action_at context.reading.actions site)
      → IsPointerOf T (pointer context site a)
  pub merged : (p site r : ℕ) (x : Term) → T x → x.root ≡ root.Named (name.Merge p site r)
      → T (named (name.Merge p site r)) × ((d : Def) → Contains (context.reading.reaching site r) d → IsSideOf T (def_side context r d))

-- Questions.

calls-at : (linked : List (List Linked)) (site : ℕ)
    → slice_index_or (map (λ (here : List Linked). map (λ (l : Linked). l.call) here) linked) site [] ≡ map (λ (l : Linked). l.call) (slice_index_or linked site [])
calls-at [] site = refl
calls-at (here ∷ linked) zero = refl
calls-at (here ∷ linked) (suc site) = calls-at linked site

-- the actions of sites are asked for what their instructions say
pub asks-action : (context : Context) (site : ℕ) (act : Action) (q : Question) → site < length context.reading.actions → action_at context.reading.actions site ≡ act
    → Contains (action_questions context.reading (calls_of context) site act) q → IsAsked context site q
asks-action context site act q less e c = (
  less,
  subst (λ (a : Action). Contains (questions context.reading (calls_of context) site a) q) (sym e)
      (Contains-append_left (action_questions context.reading (calls_of context) site act) (flat_map (call_questions site) (calls_at (calls_of context) site)) q c),
)

-- and for what their calls say
pub asks-call : (context : Context) (site : ℕ) (linked : Linked) (q : Question) → site < length context.reading.actions → Contains (linked_at context site) linked
    → Contains (call_questions site linked.call) q → IsAsked context site q
asks-call context site linked q less there c =
    let act = action_at context.reading.actions site in
    let among : Contains (calls_at (calls_of context) site) linked.call = subst (λ (cs : List Call). Contains cs linked.call) (sym (calls-at context.linked site)) (Contains-map (λ (l : Linked). l.call) (linked_at context site) linked there) in (
      less,
      Contains-append_right (action_questions context.reading (calls_of context) site act) (flat_map (call_questions site) (calls_at (calls_of context) site)) q
          (Contains-flat_map (call_questions site) (calls_at (calls_of context) site) linked.call q among c),
    )

pub asks-taken : (context : Context) (site : ℕ) (linked : Linked) (r : ℕ) → site < length context.reading.actions → Contains (linked_at context site) linked
    → Contains (taken_registers linked.call) r → IsAsked context site (OfUse site r)
asks-taken context site linked r less there c =
    let uses = λ (register : ℕ). OfUse site register in
    asks-call context site linked (OfUse site r) less there
    (Contains-append_right (target_questions site linked.call.is_plain linked.call.callee) (map uses (taken_registers linked.call)) (OfUse site r)
    (Contains-map uses (taken_registers linked.call) r c))

pub asks-held : (context : Context) (site : ℕ) (linked : Linked) (r : ℕ) → site < length context.reading.actions → Contains (linked_at context site) linked
    → linked.call.callee ≡ callee.Unknown r → linked.call.is_plain ≡ true → IsAsked context site (OfUse site r)
asks-held context site linked r less there e plain =
    let uses = λ (register : ℕ). OfUse site register in
    let same : target_questions site linked.call.is_plain linked.call.callee ≡ OfUse site r ∷ [] = ap (λ (c : Callee). target_questions site linked.call.is_plain c) e ∙ ap (λ b. target_questions site b (callee.Unknown r)) plain in
    asks-call context site linked (OfUse site r) less there
    (Contains-append_left (target_questions site linked.call.is_plain linked.call.callee) (map uses (taken_registers linked.call)) (OfUse site r)
    (subst (λ (qs : List Question). Contains qs (OfUse site r)) (sym same) (Contains-here (OfUse site r) [])))

-- several values of an address's register are asked for
pub asks-address : (context : Context) (site r : ℕ) (k : ℤ) (act : Action) → site < length context.reading.actions → action_at context.reading.actions site ≡ act → IsAddressOf (address.Register r k) act
    → is_multi (context.reading.value_at site r) ≡ true → IsAsked context site (OfUse site r)
asks-address context site r k act less e is several_there = by act e is
  where
    asked_there : Contains (address_questions context.reading site (address.Register r k)) (OfUse site r)
    asked_there = subst (λ b. Contains (cond b (OfUse site r ∷ []) []) (OfUse site r)) (sym several_there) (Contains-here (OfUse site r) [])

    by : (act : Action) → action_at context.reading.actions site ≡ act → IsAddressOf (address.Register r k) act → IsAsked context site (OfUse site r)
    by (action.Load l to a) e is =
        asks-action context site (action.Load l to a) (OfUse site r) less e (subst (λ (b : Address). Contains (address_questions context.reading site b) (OfUse site r)) is asked_there)
    by (action.Store w stored a) e is =
        asks-action context site (action.Store w stored a) (OfUse site r) less e
        (Contains-append_right (data_questions site stored w) (address_questions context.reading site a) (OfUse site r)
        (subst (λ (b : Address). Contains (address_questions context.reading site b) (OfUse site r)) is asked_there))
    by (action.Constant to v) e is = absurd is
    by (action.Symbol to g a) e is = absurd is
    by (action.AddImmediate to from n) e is = absurd is
    by (action.Add to left right) e is = absurd is
    by (action.Compute o to left right) e is = absurd is
    by (action.Compare left right) e is = absurd is
    by (action.Write to) e is = absurd is
    by action.Pass e is = absurd is
    by (action.Call callee link) e is = absurd is
    by action.Return e is = absurd is
    by action.Stop e is = absurd is

-- Registers of arguments.

first_part : (a b : Bool) → (a && b) ≡ true → a ≡ true
first_part true b e = refl
first_part false b e = e

second_part : (a b : Bool) → (a && b) ≡ true → b ≡ true
second_part true b e = e
second_part false b e = absurd (true≢false (sym e))

-- they are a0 to a7
argument_there : (n : ℕ) → n ≤ 7 → Contains (10 ∷ 11 ∷ 12 ∷ 13 ∷ 14 ∷ 15 ∷ 16 ∷ 17 ∷ []) (10 + n)
argument_there n less =
    Contains-read (10 ∷ 11 ∷ 12 ∷ 13 ∷ 14 ∷ 15 ∷ 16 ∷ 17 ∷ []) n 0 (10 + n) (omega (arith, less)) (by n less)
  where
    by : (n : ℕ) → n ≤ 7 → get_or (10 ∷ 11 ∷ 12 ∷ 13 ∷ 14 ∷ 15 ∷ 16 ∷ 17 ∷ []) n 0 ≡ 10 + n
    by zero less = refl
    by (suc zero) less = refl
    by (suc (suc zero)) less = refl
    by (suc (suc (suc zero))) less = refl
    by (suc (suc (suc (suc zero)))) less = refl
    by (suc (suc (suc (suc (suc zero))))) less = refl
    by (suc (suc (suc (suc (suc (suc zero)))))) less = refl
    by (suc (suc (suc (suc (suc (suc (suc zero))))))) less = refl
    by (suc (suc (suc (suc (suc (suc (suc (suc n)))))))) less = absurd (omega (arith, less))

pub taken_least : (call : Call) (r : ℕ) → Contains (taken_registers call) r → 10 ≤ r
taken_least call r c =
    let takes : takes_register call r ≡ true = (filter-source (takes_register call) (10 ∷ 11 ∷ 12 ∷ 13 ∷ 14 ∷ 15 ∷ 16 ∷ 17 ∷ []) r c).1 in
    let least : nat_le 10 r ≡ true = first_part (nat_le 10 r) (nat_le r 17) (first_part (nat_le 10 r && nat_le r 17) (slice_index_or call.takes (r - 10) false) takes) in
    grind (arith, nat_tests)

takes_taken : (call : Call) (n : ℕ) → takes_register call (10 + n) ≡ true → Contains (taken_registers call) (10 + n)
takes_taken call n takes =
    let most : nat_le (10 + n) 17 ≡ true = second_part (nat_le 10 (10 + n)) (nat_le (10 + n) 17) (first_part (nat_le 10 (10 + n) && nat_le (10 + n) 17) (slice_index_or call.takes (10 + n - 10) false) takes) in
    let few : n ≤ 7 = grind (arith, nat_tests) in
    filter-has (takes_register call) (10 ∷ 11 ∷ 12 ∷ 13 ∷ 14 ∷ 15 ∷ 16 ∷ 17 ∷ []) (10 + n) (argument_there n few) takes

-- where an operation has a role for an operand, it is asked for
asks-left : (site : ℕ) (o : Operation) (left : ℕ) (right : Option ℕ) (a : Role) → left_role o ≡ Some a → Contains (compute_questions site o left right) (OfUse site left)
asks-left site operation.LessUnsigned left right a e = cc
asks-left site operation.Scale left right a e = Contains-here (OfUse site left) (operand site right)
asks-left site operation.ShiftRight left right a e = Contains-here (OfUse site left) (operand site right)
asks-left site operation.ShiftRightSigned left right a e = Contains-here (OfUse site left) (operand site right)
asks-left site operation.Signed left right a e = Contains-here (OfUse site left) (operand site right)
asks-left site operation.Unsigned left right a e = Contains-here (OfUse site left) (operand site right)
asks-left site operation.SignedByUnsigned left right a e = Contains-here (OfUse site left) (operand site right)
asks-left site operation.LessSigned left right a e = Contains-here (OfUse site left) (operand site right)

asks-right : (site : ℕ) (o : Operation) (left r : ℕ) (a : Role) → right_role o ≡ Some a → Contains (compute_questions site o left (Some r)) (OfUse site r)
asks-right site operation.LessUnsigned left r a e = cc
asks-right site operation.Scale left r a e = Contains-there (OfUse site left) (OfUse site r ∷ []) (OfUse site r) (Contains-here (OfUse site r) [])
asks-right site operation.ShiftRight left r a e = Contains-there (OfUse site left) (OfUse site r ∷ []) (OfUse site r) (Contains-here (OfUse site r) [])
asks-right site operation.ShiftRightSigned left r a e = Contains-there (OfUse site left) (OfUse site r ∷ []) (OfUse site r) (Contains-here (OfUse site r) [])
asks-right site operation.Signed left r a e = Contains-there (OfUse site left) (OfUse site r ∷ []) (OfUse site r) (Contains-here (OfUse site r) [])
asks-right site operation.Unsigned left r a e = Contains-there (OfUse site left) (OfUse site r ∷ []) (OfUse site r) (Contains-here (OfUse site r) [])
asks-right site operation.SignedByUnsigned left r a e = Contains-there (OfUse site left) (OfUse site r ∷ []) (OfUse site r) (Contains-here (OfUse site r) [])
asks-right site operation.LessSigned left r a e = Contains-there (OfUse site left) (OfUse site r ∷ []) (OfUse site r) (Contains-here (OfUse site r) [])

module _ (context : Context) (T : Term → Type 0) where
  abbrev sites : ℕ
  sites = length context.reading.actions

  abbrev pub IsGood : Row → Type 0
  IsGood (row.Var x) = T x
  IsGood (row.Same x y) = T x × T y
  IsGood (row.Sub x y) = T x × T y
  IsGood (row.Low k x) = T x
  IsGood (row.Up x k) = T x

  abbrev pub IsGoodItem : Item → Type 0
  IsGoodItem (item.Told x) = IsGood x
  IsGoodItem (item.Instance site i) = Unit {0}

  -- a name stands for a term of the kind
  abbrev pub IsNamed : Name → Type 0
  IsNamed n = (x : Term) × T x × (x.root ≡ root.Named n)

  none : All IsGood []
  none = All-nil IsGood

  one : (r : Row) → IsGood r → All IsGood (r ∷ [])
  one r h = All-cons IsGood r [] h none

  both : (xs ys : List Row) → All IsGood xs → All IsGood ys → All IsGood (xs ++ ys)
  both xs ys h k = All-append IsGood xs ys h k

  names_of_term : (x : Term) → T x → (r : Root) → x.root ≡ r → All IsNamed (root_names r)
  names_of_term x h (root.Proc p) e = All-nil IsNamed
  names_of_term x h (root.Global g) e = All-nil IsNamed
  names_of_term x h (root.Outer n) e = All-nil IsNamed
  names_of_term x h (root.Named n) e = All-cons IsNamed n [] (x, h, e) (All-nil IsNamed)

  -- so do all names of such a row
  pub good-names : (r : Row) → IsGood r → All IsNamed (row_names r)
  good-names (row.Var x) h = names_of_term x h x.root refl
  good-names (row.Same x y) h = All-append IsNamed (root_names x.root) (root_names y.root) (names_of_term x h.0 x.root refl) (names_of_term y h.1 y.root refl)
  good-names (row.Sub x y) h = All-append IsNamed (root_names x.root) (root_names y.root) (names_of_term x h.0 x.root refl) (names_of_term y h.1 y.root refl)
  good-names (row.Low k x) h = names_of_term x h x.root refl
  good-names (row.Up x k) h = names_of_term x h x.root refl

  -- Sides of results.

  module _ (t : AreTerms context T) (tells : AreToldCalls context) where
    first : (r : ℕ) (side : Side) → IsSideOf T (Some side) → IsSideOf T (if_first r side)
    first zero side h = h
    first (suc r) side h = tt

    pointer_results : (site i : ℕ) (o : Option Side) → IsSideOf T o → IsSideOf T (Some (pointer_result context site i o))
    pointer_results site i None h = t.of_unknown site i
    pointer_results site i (Some Code) h = t.of_unknown site i
    pointer_results site i (Some (Variable x)) h = t.longer x (label.Out 0 ∷ []) h

    module _ (uses : ℕ → ℕ → Option Side) (u : (site r : ℕ) → IsAsked context site (OfUse site r) → IsSideOf T (uses site r)) where
      held_use : (site : ℕ) (linked : Linked) (r : ℕ) → site < sites → Contains (linked_at context site) linked → linked.target ≡ Held r → IsSideOf T (uses site r)
      held_use site linked r less there e =
          let is = subst (IsToldAs linked.call) e (tells site linked there) in
          u site r (asks-held context site linked r less there is.0 is.1)

      results_by : (site i r : ℕ) (linked : Linked) (target : Target) → site < sites → Contains (linked_at context site) linked → linked.target ≡ target
          → IsSideOf T (result_by context uses site i r linked.call target)
      results_by site i r linked (Member q words) less there e =
          elim (gives_result linked.call r) as (λ b. IsSideOf T (cond b (Some (Variable (port_of_member q (label.Out r)))) None)) [ true ↦ t.of_result q r | false ↦ tt ]
      results_by site i r linked (Scheme own lines covered) less there e =
          elim (has_port (instance_ports own lines 0) (label.Out r)) as (λ b. IsSideOf T (cond b (Some (Variable (port_of context site i (label.Out r)))) None))
          [ true ↦ t.of_port site i (label.Out r) | false ↦ tt ]
      results_by site i r linked (Held register) less there e =
          first r (pointer_result context site i (uses site register)) (pointer_results site i (uses site register) (held_use site linked register less there e))
      results_by site i r linked Unknown less there e = first r (unknown_result context site i) (t.of_unknown site i)

      writings : (site r : ℕ) (here : List Linked) → site < sites → linked_at context site ≡ here → IsSideOf T (written_by context uses site r here)
      writings site r [] less e = tt
      writings site r (linked ∷ more) less e =
          let there : Contains (linked_at context site) linked = subst (λ (ls : List Linked). Contains ls linked) (sym e) (Contains-here linked more) in
          elim (nat_le 10 r && nat_le r 11) as (λ b. IsSideOf T (cond b (result_by context uses site 0 (r - 10) linked.call linked.target) None))
          [ true ↦ results_by site 0 (r - 10) linked linked.target less there refl | false ↦ tt ]

      -- the side of what a site wrote
      pub written-good : (site r : ℕ) → IsSideOf T (written_side context uses site r)
      written-good site r = by (cases_lt site sites)
        where
          by : (site < sites) ⊎ (sites ≤ site) → IsSideOf T (written_side context uses site r)
          by (inl less) =
              elim (is_call_site context site) as (λ b. IsSideOf T (cond b (written_by context uses site r (linked_at context site)) (Some (Variable (definition context site r)))))
              [ true ↦ writings site r (linked_at context site) less refl | false ↦ t.written site r ]
          by (inr past) =
              subst (λ act. IsSideOf T (cond (is_call_action act) (written_by context uses site r (linked_at context site)) (Some (Variable (definition context site r)))))
              (sym (get_or_past context.reading.actions site action.Pass past)) (t.written site r)

  -- Rows.

  module _ (s : AreKept context T) (tells : AreToldCalls context) where
    flows : (o : Option Side) (y : Term) → IsSideOf T o → T y → All IsGood (flow context o y)
    flows None y h k = none
    flows (Some Code) y h k = one (row.Low (context.constant role.Code) y) k
    flows (Some (Variable x)) y h k = one (row.Sub x y) (h, k)

    flows_or : (o : Option Side) (y : Term) → IsSideOf T o → T y → All IsGood (flow_or_exists context o y)
    flows_or None y h k = one (row.Var y) k
    flows_or (Some Code) y h k = flows (Some Code) y h k
    flows_or (Some (Variable x)) y h k = flows (Some (Variable x)) y h k

    belows : (r : Role) (o : Option Side) → IsSideOf T o → All IsGood (below context r o)
    belows r None h = none
    belows r (Some Code) h = none
    belows r (Some (Variable x)) h = one (row.Up x (context.constant r)) h

    results_above : (r : Role) (site to : ℕ) → All IsGood (result_above context r site to)
    results_above r site to =
        elim (nat_eq to 0) as (λ b. All IsGood (cond b [] (row.Low (context.constant r) (definition context site to) ∷ [])))
        [ true ↦ none | false ↦ one (row.Low (context.constant r) (definition context site to)) (s.terms.written site to) ]

    each : (y : Term) (r : ℕ) → T y → (ds : List Def) → ((d : Def) → Contains ds d → IsSideOf T (def_side context r d))
        → All IsGood (flat_map (λ d. flow context (def_side context r d) y) ds)
    each y r k [] h = none
    each y r k (d ∷ ds) h =
        both (flow context (def_side context r d) y) (flat_map (λ e. flow context (def_side context r e) y) ds)
        (flows (def_side context r d) y (h d (Contains-here d ds)) k)
        (each y r k ds (λ e c. h e (Contains-there d ds e c)))

    -- Loads and stores.

    reads : (site to : ℕ) (x : Term) → T x → IsGood (read_into context site to x)
    reads site to x h =
        elim (nat_eq to 0) as (λ b. IsGood (cond b (row.Var x) (row.Sub x (definition context site to)))) [ true ↦ h | false ↦ (h, s.terms.written site to) ]

    role_rows : (o : Option Role) (x : Term) → T x → All IsGood (role_row context o x)
    role_rows None x h = none
    role_rows (Some r) x h = one (row.Up x (context.constant r)) h

    stored_in : (k : ℤ) (site : ℕ) (act : Action) → site < sites → action_at context.reading.actions site ≡ act → IsSideOf T (stored_side context k site act)
    stored_in k site (action.Store width.Word stored to) i e =
        let asked : IsAsked context site (OfUse site stored) = asks-action context site (action.Store width.Word stored to) (OfUse site stored) i e
        (Contains-append_left (OfUse site stored ∷ []) (address_questions context.reading site to) (OfUse site stored) (Contains-here (OfUse site stored) [])) in
        elim (is_frame k (address_value context.reading site to)) as (λ b. IsSideOf T (cond b (use_side context site stored) None))
        [ true ↦ s.used site stored asked | false ↦ tt ]
    stored_in k site (action.Store width.Half stored to) i e = tt
    stored_in k site (action.Store width.Byte stored to) i e = tt
    stored_in k site (action.Constant to v) i e = tt
    stored_in k site (action.Symbol to g a) i e = tt
    stored_in k site (action.AddImmediate to from n) i e = tt
    stored_in k site (action.Add to left right) i e = tt
    stored_in k site (action.Load l to a) i e = tt
    stored_in k site (action.Compute o to left right) i e = tt
    stored_in k site (action.Compare left right) i e = tt
    stored_in k site (action.Write to) i e = tt
    stored_in k site action.Pass i e = tt
    stored_in k site (action.Call callee link) i e = tt
    stored_in k site action.Return i e = tt
    stored_in k site action.Stop i e = tt

    stored_at : (k : ℤ) (site : ℕ) → IsSideOf T (stored_side context k site (action_at context.reading.actions site))
    stored_at k site = by (cases_lt site sites)
      where
        by : (site < sites) ⊎ (sites ≤ site) → IsSideOf T (stored_side context k site (action_at context.reading.actions site))
        by (inl i) = stored_in k site (action_at context.reading.actions site) i refl
        by (inr i) = subst (λ act. IsSideOf T (stored_side context k site act)) (sym (get_or_past context.reading.actions site action.Pass i)) tt

    word_flows : (k : ℤ) (y : Term) (d : Def) → T y → All IsGood (word_flow context k y d)
    word_flows k y def.Entry h =
        elim (is_stack_word k) as (λ b. All IsGood (cond b (row.Sub (stack_argument context k) y ∷ []) []))
        [ true ↦ one (row.Sub (stack_argument context k) y) (s.terms.of_word context.procedure (cast_unsigned w32 k), h) | false ↦ none ]
    word_flows k y (def.At site) h = flows (stored_side context k site (action_at context.reading.actions site)) y (stored_at k site) h

    words : (k : ℤ) (y : Term) (ds : List Def) → T y → All IsGood (flat_map (word_flow context k y) ds)
    words k y [] h = none
    words k y (d ∷ ds) h = both (word_flow context k y d) (flat_map (word_flow context k y) ds) (word_flows k y d h) (words k y ds h)

    load_words : (site to : ℕ) (k : ℤ) → All IsGood (load_word context site to k)
    load_words site to k =
        elim (nat_eq to 0) as (λ b. All IsGood (cond b [] (flat_map (word_flow context k (definition context site to)) (word_defs context site k))))
        [ true ↦ none | false ↦ words k (definition context site to) (word_defs context site k) (s.terms.written site to) ]

    loads_in_frame : (site : ℕ) (l : Loaded) (to : ℕ) (k : ℤ) → All IsGood (load_in_frame context site l to k)
    loads_in_frame site loaded.Word to k = load_words site to k
    loads_in_frame site loaded.SignedHalf to k = none
    loads_in_frame site loaded.Half to k = none
    loads_in_frame site loaded.SignedByte to k = none
    loads_in_frame site loaded.Byte to k = none

    loads_through : (site : ℕ) (l : Loaded) (to : ℕ) (d : Term) (k : ℤ) → T d → All IsGood (load_through context site l to d k)
    loads_through site l to d k h =
        let x = along d (label.Load ∷ label.Field (loaded_bits l) k ∷ []) in
        let long : T x = s.terms.longer d (label.Load ∷ label.Field (loaded_bits l) k ∷ []) h in
        All-cons IsGood (read_into context site to x) (role_row context (loaded_role l) x) (reads site to x long) (role_rows (loaded_role l) x long)

    loads : (site : ℕ) (l : Loaded) (to : ℕ) (p : Pointer) → IsPointerOf T p → All IsGood (load_rows context site l to p)
    loads site l to (Through d k) h = loads_through site l to d k h
    loads site l to (InFrame k) h = loads_in_frame site l to k
    loads site l to Nowhere h = none

    stores_through : (site : ℕ) (w : Width) (stored : ℕ) (d : Term) (k : ℤ) → ((q : Question) → Contains (data_questions site stored w) q → IsAsked context site q)
        → T d → All IsGood (store_through context site w stored d k)
    stores_through site width.Word stored d k asks h =
        flows_or (use_side context site stored) (along d (label.Store ∷ label.Field 32 k ∷ []))
        (s.used site stored (asks (OfUse site stored) (Contains-here (OfUse site stored) []))) (s.terms.longer d (label.Store ∷ label.Field 32 k ∷ []) h)
    stores_through site width.Half stored d k asks h =
        one (row.Var (along d (label.Store ∷ label.Field (width_bits width.Half) k ∷ []))) (s.terms.longer d (label.Store ∷ label.Field (width_bits width.Half) k ∷ []) h)
    stores_through site width.Byte stored d k asks h =
        one (row.Var (along d (label.Store ∷ label.Field (width_bits width.Byte) k ∷ []))) (s.terms.longer d (label.Store ∷ label.Field (width_bits width.Byte) k ∷ []) h)

    stores : (site : ℕ) (w : Width) (stored : ℕ) (p : Pointer) → ((q : Question) → Contains (data_questions site stored w) q → IsAsked context site q)
        → IsPointerOf T p → All IsGood (store_rows context site w stored p)
    stores site w stored (Through d k) asks h = stores_through site w stored d k asks h
    stores site w stored (InFrame k) asks h = none
    stores site w stored Nowhere asks h = none

    -- Computations and returns.

    summands : (b : Bool) (site to other : ℕ) → ((q : Question) → Contains (cond b [] (OfUse site other ∷ [])) q → IsAsked context site q)
        → All IsGood (cond b [] (flow context (use_side context site other) (definition context site to)))
    summands true site to other asks = none
    summands false site to other asks =
        flows (use_side context site other) (definition context site to) (s.used site other (asks (OfUse site other) (Contains-here (OfUse site other) []))) (s.terms.written site to)

    index_rows : (site to other index : ℕ)
        → ((q : Question) → Contains (cond (nat_eq to 0) [] (OfUse site other ∷ []) ++ OfUse site index ∷ []) q → IsAsked context site q)
        → All IsGood (indexed context site to other index)
    index_rows site to other index asks =
        let firsts : List Question = cond (nat_eq to 0) [] (OfUse site other ∷ []) in
        both (cond (nat_eq to 0) [] (flow context (use_side context site other) (definition context site to))) (below context role.Num32 (use_side context site index))
        (summands (nat_eq to 0) site to other (λ q c. asks q (Contains-append_left firsts (OfUse site index ∷ []) q c)))
        (belows role.Num32 (use_side context site index)
        (s.used site index (asks (OfUse site index) (Contains-append_right firsts (OfUse site index ∷ []) (OfUse site index) (Contains-here (OfUse site index) [])))))

    additions : (site to left right : ℕ) (a : Addition) → ((q : Question) → Contains (addition_questions site to left right a) q → IsAsked context site q)
        → All IsGood (addition_rows context site to left right a)
    additions site to left right addition.IndexLeft asks = index_rows site to right left asks
    additions site to left right addition.IndexRight asks = index_rows site to left right asks
    additions site to left right addition.Indices asks =
        both (below context role.Num32 (use_side context site left) ++ below context role.Num32 (use_side context site right)) (result_above context role.Num32 site to)
        (both (below context role.Num32 (use_side context site left)) (below context role.Num32 (use_side context site right))
        (belows role.Num32 (use_side context site left) (s.used site left (asks (OfUse site left) (Contains-here (OfUse site left) (OfUse site right ∷ [])))))
        (belows role.Num32 (use_side context site right)
        (s.used site right (asks (OfUse site right) (Contains-there (OfUse site left) (OfUse site right ∷ []) (OfUse site right) (Contains-here (OfUse site right) []))))))
        (results_above role.Num32 site to)
    additions site to left right addition.Untold asks = none

    operands : (site : ℕ) (o : Option ℕ) (r : Option Role) → ((register : ℕ) (a : Role) → o ≡ Some register → r ≡ Some a → IsSideOf T (use_side context site register))
        → All IsGood (operand_rows context site o r)
    operands site None r h = none
    operands site (Some register) None h = none
    operands site (Some register) (Some r) h = belows r (use_side context site register) (h register r refl refl)

    left_operand : (site : ℕ) (o : Operation) (left : ℕ) (right : Option ℕ) → ((q : Question) → Contains (compute_questions site o left right) q → IsAsked context site q)
        → (register : ℕ) (a : Role) → Some left ≡ Some register → left_role o ≡ Some a → IsSideOf T (use_side context site register)
    left_operand site o left right asks register a e is =
        let same : left ≡ register = cc in
        subst (λ n. IsSideOf T (use_side context site n)) same (s.used site left (asks (OfUse site left) (asks-left site o left right a is)))

    right_operand : (site : ℕ) (o : Operation) (left : ℕ) (right : Option ℕ) → ((q : Question) → Contains (compute_questions site o left right) q → IsAsked context site q)
        → (register : ℕ) (a : Role) → right ≡ Some register → right_role o ≡ Some a → IsSideOf T (use_side context site register)
    right_operand site o left right asks register a e is =
        s.used site register (asks (OfUse site register)
        (subst (λ (r : Option ℕ). Contains (compute_questions site o left r) (OfUse site register)) (sym e) (asks-right site o left register a is)))

    computes : (site : ℕ) (o : Operation) (to left : ℕ) (right : Option ℕ) → ((q : Question) → Contains (compute_questions site o left right) q → IsAsked context site q)
        → All IsGood (compute_rows context site o to left right)
    computes site o to left right asks =
        both (operand_rows context site (Some left) (left_role o) ++ operand_rows context site right (right_role o)) (result_above context (result_role o) site to)
        (both (operand_rows context site (Some left) (left_role o)) (operand_rows context site right (right_role o))
        (operands site (Some left) (left_role o) (left_operand site o left right asks)) (operands site right (right_role o) (right_operand site o left right asks)))
        (results_above (result_role o) site to)

    exists : (y : Term) (rows : List Row) → T y → All IsGood rows → All IsGood (exists_if_none y rows)
    exists y [] k h = one (row.Var y) k
    exists y (r ∷ rows) k h = h

    return_rows : (y : Term) (r : ℕ) (ds : List Def) → T y → ((d : Def) → Contains ds d → IsSideOf T (def_side context r d)) → All IsGood (returned context y r ds)
    return_rows y r [] k h = none
    return_rows y r (d ∷ ds) k h = exists y (flat_map (λ e. flow context (def_side context r e) y) (d ∷ ds)) k (each y r k (d ∷ ds) h)

    results_good : (site r : ℕ)
        → ((q : Question) → Contains (map (λ (d : Def). OfDefinition d (10 + r)) (results context.reading (calls_of context) site (10 + r))) q → IsAsked context site q)
        → All IsGood (result_rows context site r)
    results_good site r asks =
        let defs = results context.reading (calls_of context) site (10 + r) in
        return_rows (port context (label.Out r)) (10 + r) defs (s.terms.of_result context.procedure r)
        (λ d c. s.defined site (10 + r) d (asks (OfDefinition d (10 + r)) (Contains-map (λ (d : Def). OfDefinition d (10 + r)) defs d c)))

    -- Sites.

    kept : (site to from : ℕ) (b : Bool) → ((q : Question) → Contains (cond b (OfUse site from ∷ []) []) q → IsAsked context site q) → All IsGood (kept_rows context site to from b)
    kept site to from true asks =
        flows (use_side context site from) (definition context site to) (s.used site from (asks (OfUse site from) (Contains-here (OfUse site from) []))) (s.terms.written site to)
    kept site to from false asks = none

    at_site : (site : ℕ) (act : Action) → site < sites → action_at context.reading.actions site ≡ act
        → ((q : Question) → Contains (action_questions context.reading (calls_of context) site act) q → IsAsked context site q) → All IsGood (site_rows context site act)
    at_site site (action.AddImmediate to from n) i e asks = kept site to from (is_kept context.reading site to from n) asks
    at_site site (action.Add to left right) i e asks = additions site to left right (addition_at context.reading site left right) asks
    at_site site (action.Load l to a) i e asks =
        loads site l to (pointer context site a) (s.addressed site a i (subst (IsAddressOf a) (sym e) refl))
    at_site site (action.Store w stored a) i e asks =
        stores site w stored (pointer context site a)
        (λ q c. asks q (Contains-append_left (data_questions site stored w) (address_questions context.reading site a) q c))
        (s.addressed site a i (subst (IsAddressOf a) (sym e) refl))
    at_site site (action.Compute o to left right) i e asks = computes site o to left right asks
    at_site site (action.Compare left right) i e asks =
        both (below context role.Sint32 (use_side context site left)) (below context role.Sint32 (use_side context site right))
        (belows role.Sint32 (use_side context site left) (s.used site left (asks (OfUse site left) (Contains-here (OfUse site left) (OfUse site right ∷ [])))))
        (belows role.Sint32 (use_side context site right)
        (s.used site right (asks (OfUse site right) (Contains-there (OfUse site left) (OfUse site right ∷ []) (OfUse site right) (Contains-here (OfUse site right) [])))))
    at_site site action.Return i e asks =
        let tells_of = λ (r : ℕ). map (λ (d : Def). OfDefinition d r) (results context.reading (calls_of context) site r) in
        both (result_rows context site 0) (result_rows context site 1)
        (results_good site 0 (λ q c. asks q (Contains-append_left (tells_of 10) (tells_of 11) q c)))
        (results_good site 1 (λ q c. asks q (Contains-append_right (tells_of 10) (tells_of 11) q c)))
    at_site site (action.Constant to v) i e asks = none
    at_site site (action.Symbol to x a) i e asks = none
    at_site site (action.Write to) i e asks = none
    at_site site action.Pass i e asks = none
    at_site site (action.Call callee link) i e asks = none
    at_site site action.Stop i e asks = none

    -- Calls.

    spot_flows : (site : ℕ) (y : Term) (p : Spot) → T y → All IsGood (spot_flow context site y p)
    spot_flows site y (spot.Location k) h = words k y (word_defs context site k) h
    spot_flows site y (spot.OnObject start distance) h = none

    stack_flows : (site k : ℕ) (y : Term) (v : Value) → T y → All IsGood (stack_flow context site k y v)
    stack_flows site k y (value.Frame m) h = spot_flows site y (spot_at context.frame.layout (int_wrap w32 (m +ℤ pos k))) h
    stack_flows site k y (value.Const n) h = none
    stack_flows site k y (value.Sym g offset) h = none
    stack_flows site k y (value.Entry r offset) h = none
    stack_flows site k y (value.At q r offset) h = none
    stack_flows site k y value.Multi h = none

    -- what is passed as the argument of a label is asked for
    abbrev IsPassed : ℕ → Label → Type 0
    IsPassed site (label.In (Arg n)) = IsAsked context site (OfUse site (10 + n))
    IsPassed site other = Unit {0}

    argument_flows : (site : ℕ) (l : Label) (y : Term) → IsPassed site l → T y → All IsGood (argument_flow context site l y)
    argument_flows site (label.In (Arg n)) y a h = flows (use_side context site (10 + n)) y (s.used site (10 + n) a) h
    argument_flows site (label.In (Stack k)) y a h = stack_flows site k y (context.reading.value_at site 2) h
    argument_flows site (label.Out r) y a h = none
    argument_flows site label.Load y a h = none
    argument_flows site label.Store y a h = none
    argument_flows site (label.Field b k) y a h = none

    passed : (site : ℕ) (y : Label → Term) (ls : List Label) → ((l : Label) → Contains ls l → IsPassed site l × T (y l))
        → All IsGood (flat_map (λ (l : Label). argument_flow context site l (y l)) ls)
    passed site y [] h = none
    passed site y (l ∷ ls) h =
        let here = h l (Contains-here l ls) in
        both (argument_flow context site l (y l)) (flat_map (λ (m : Label). argument_flow context site m (y m)) ls)
        (argument_flows site l (y l) here.0 here.1) (passed site y ls (λ m c. h m (Contains-there l ls m c)))

    -- what is passed in registers, by the labels that a callee takes
    by_register : (site : ℕ) (linked : Linked) (y : Label → Term) → site < sites → Contains (linked_at context site) linked
        → ((r : ℕ) → Contains (taken_registers linked.call) r → T (y (label.In (Arg (r - 10)))))
        → (l : Label) → Contains (register_arguments linked.call) l → IsPassed site l × T (y l)
    by_register site linked y less there h l c =
        let (r, taken, is) = Contains-map_source (λ (register : ℕ). label.In (Arg (register - 10))) (taken_registers linked.call) l c in
        let least : 10 ≤ r = taken_least linked.call r taken in
        let same : r ≡ 10 + (r - 10) = omega (arith, least) in
        let asked : IsPassed site (label.In (Arg (r - 10))) = subst (λ n. IsAsked context site (OfUse site n)) same (asks-taken context site linked r less there taken) in
        (subst (IsPassed site) is asked, subst (λ (m : Label). T (y m)) is (h r taken))

    by_word : (site : ℕ) (y : Label → Term) (ks : List ℕ) → ((k : ℕ) → T (y (label.In (Stack k)))) → (l : Label) → Contains (stack_arguments ks) l → IsPassed site l × T (y l)
    by_word site y ks h l c =
        let (k, there, is) = Contains-map_source (λ (k : ℕ). label.In (Stack k)) ks l c in
        (subst (IsPassed site) is tt, subst (λ (m : Label). T (y m)) is (h k))

    by_either : (site : ℕ) (y : Label → Term) (ls ms : List Label) → ((l : Label) → Contains ls l → IsPassed site l × T (y l)) → ((l : Label) → Contains ms l → IsPassed site l × T (y l))
        → (l : Label) → Contains (ls ++ ms) l → IsPassed site l × T (y l)
    by_either site y ls ms f g l c = by (Contains-append_cases ls ms l c)
      where
        by : Contains ls l ⊎ Contains ms l → IsPassed site l × T (y l)
        by (inl d) = f l d
        by (inr d) = g l d

    tells_rows : (rows : List Row) → All IsGood rows → All IsGoodItem (told rows)
    tells_rows rows h = All-map IsGoodItem item.Told rows h

    pointer_calls : (site : ℕ) (linked : Linked) (o : Option Side) → site < sites → Contains (linked_at context site) linked → IsSideOf T o
        → All IsGood (pointer_call context site linked.call o)
    pointer_calls site linked None less there h = none
    pointer_calls site linked (Some Code) less there h = none
    pointer_calls site linked (Some (Variable x)) less there h =
        let y = λ (l : Label). along x (l ∷ []) in
        All-cons IsGood (row.Up x (context.constant role.Code)) (flat_map (λ (l : Label). argument_flow context site l (y l)) (register_arguments linked.call)) h
        (passed site y (register_arguments linked.call)
        (by_register site linked y less there (λ r taken. s.terms.longer x (label.In (Arg (r - 10)) ∷ []) h)))

    -- the arguments that a scheme takes
    by_port : (site i : ℕ) (linked : Linked) (ports : List (Label × ℕ)) (covered : Option ℕ) → site < sites → Contains (linked_at context site) linked
        → ((n : ℕ) → Contains (port_registers ports covered) n → takes_register linked.call (10 + n) ≡ true)
        → (l : Label) → Contains (map (λ (n : ℕ). label.In (Arg n)) (port_registers ports covered)) l → IsPassed site l × T (port_of context site i l)
    by_port site i linked ports covered less there takes l c =
        let (n, has, is) = Contains-map_source (λ (n : ℕ). label.In (Arg n)) (port_registers ports covered) l c in
        let asked : IsPassed site (label.In (Arg n)) = asks-taken context site linked (10 + n) less there (takes_taken linked.call n (takes n has)) in
        (subst (IsPassed site) is asked, s.terms.of_port site i l)

    calls_by : (site i : ℕ) (linked : Linked) (target : Target) → site < sites → Contains (linked_at context site) linked → linked.target ≡ target
        → All IsGoodItem (call_by context site i linked.call target)
    calls_by site i linked (Member q ks) less there e =
        let y = λ (l : Label). port_of_member q l in
        let labels = register_arguments linked.call ++ stack_arguments ks in
        tells_rows (flat_map (λ (l : Label). argument_flow context site l (y l)) labels)
        (passed site y labels (by_either site y (register_arguments linked.call) (stack_arguments ks)
        (by_register site linked y less there (λ r taken. s.terms.of_argument site linked q r ks there e taken)) (by_word site y ks (λ k. s.terms.of_word q k))))
    calls_by site i linked (Scheme own lines covered) less there e =
        let ports = instance_ports own lines 0 in
        let y = λ (l : Label). port_of context site i l in
        let registers = map (λ (n : ℕ). label.In (Arg n)) (port_registers ports covered) in
        let labels = port_arguments ports covered in
        let rows = flat_map (λ (l : Label). argument_flow context site l (y l)) labels in
        All-cons IsGoodItem (item.Instance site i) (told rows) tt
        (tells_rows rows (passed site y labels (by_either site y registers (stack_arguments (port_words ports))
        (by_port site i linked ports covered less there (subst (IsToldAs linked.call) e (tells site linked there)))
        (by_word site y (port_words ports) (λ k. s.terms.of_port site i (label.In (Stack k)))))))
    calls_by site i linked (Held register) less there e =
        tells_rows (pointer_call context site linked.call (use_side context site register))
        (pointer_calls site linked (use_side context site register) less there (held_use s.terms tells (use_side context) s.used site linked register less there e))
    calls_by site i linked Unknown less there e = All-nil IsGoodItem

    tail_good : (site i : ℕ) (linked : Linked) (r : ℕ) → site < sites → Contains (linked_at context site) linked → All IsGood (tail_result context site i linked r)
    tail_good site i linked r less there =
        let o = result_by context (use_side context) site i r linked.call linked.target in
        elim (gives_result linked.call r) as (λ b. All IsGood (cond b (flow_or_exists context o (port context (label.Out r))) [])) [
          | true ↦ flows_or o (port context (label.Out r)) (results_by s.terms tells (use_side context) s.used site i r linked linked.target less there refl) (s.terms.of_result context.procedure r)
          | false ↦ none
        ]

    tails_good : (site i : ℕ) (linked : Linked) (b : Bool) → site < sites → Contains (linked_at context site) linked → All IsGood (tail_results context site i linked b)
    tails_good site i linked true less there =
        both (tail_result context site i linked 0) (tail_result context site i linked 1) (tail_good site i linked 0 less there) (tail_good site i linked 1 less there)
    tails_good site i linked false less there = none

    both_items : (xs ys : List Item) → All IsGoodItem xs → All IsGoodItem ys → All IsGoodItem (xs ++ ys)
    both_items xs ys h k = All-append IsGoodItem xs ys h k

    calls_good : (site i : ℕ) (here : List Linked) → site < sites → ((linked : Linked) → Contains here linked → Contains (linked_at context site) linked)
        → All IsGoodItem (calls_from context site i here)
    calls_good site i [] less among = All-nil IsGoodItem
    calls_good site i (linked ∷ more) less among =
        let tail = tail_results context site i linked (not (is_call_site context site && nat_eq i 0)) in
        let there : Contains (linked_at context site) linked = among linked (Contains-here linked more) in
        both_items (call_by context site i linked.call linked.target ++ told tail) (calls_from context site (i + 1) more)
        (both_items (call_by context site i linked.call linked.target) (told tail) (calls_by site i linked linked.target less there refl)
        (tells_rows tail (tails_good site i linked (not (is_call_site context site && nat_eq i 0)) less there)))
        (calls_good site (i + 1) more less (λ l c. among l (Contains-there linked more l c)))

    sites_from : (i : ℕ) (acts : List Action) → i + length acts ≤ sites → ((k : ℕ) → k < length acts → action_at context.reading.actions (i + k) ≡ action_at acts k)
        → All IsGoodItem (items_from context i acts)
    sites_from i [] n same = All-nil IsGoodItem
    sites_from i (act ∷ acts) n same =
        let less : i < sites = omega (arith, n) in
        let number : i + 0 ≡ i = omega arith in
        let is : action_at context.reading.actions i ≡ act = subst (λ k. action_at context.reading.actions k ≡ act) number (same 0 (omega arith)) in
        both_items (site_items context i act) (items_from context (i + 1) acts)
        (both_items (told (site_rows context i act)) (calls_from context i 0 (linked_at context i))
        (tells_rows (site_rows context i act) (at_site i act less is (λ q c. asks-action context i act q less is c)))
        (calls_good i 0 (linked_at context i) less (λ l c. c)))
        (sites_from (i + 1) acts (omega (arith, n))
        (λ k k_less. let next : i + suc k ≡ i + 1 + k = omega arith in subst (λ m. action_at context.reading.actions m ≡ action_at acts k) next (same (suc k) (omega (arith, k_less)))))

    -- the items of all sites
    pub good-items : All IsGoodItem (items_from context 0 context.reading.actions)
    good-items =
        sites_from 0 context.reading.actions (omega arith)
        (λ k less. let number : 0 + k ≡ k = omega arith in ap (action_at context.reading.actions) number)

    -- the rows of a merge
    pub good-merge : (n : Name) → IsNamed n → All IsGood (merge_rows context n)
    good-merge (name.Merge p site r) (x, h, e) =
        let m = s.merged p site r x h e in
        each (named (name.Merge p site r)) r m.0 (context.reading.reaching site r) m.1
    good-merge (name.Definition p site r) h = none
    good-merge (name.Object p k) h = none
    good-merge (name.Port p site i l) h = none
    good-merge (name.Inner p site i n) h = none
    good-merge (name.Result p site i) h = none

    -- what is written
    pub good-written : {open_names : List Name} {items done : List Item} → Writes context open_names items done → All IsGoodItem items → All IsGoodItem done
    good-written ends h = h
    good-written (places {site} {i} {items} {done} w) h =
        All-cons IsGoodItem (item.Instance site i) done tt (good-written w (All-tail IsGoodItem (item.Instance site i) items h))
    good-written (writes {x} {items} {done} e w) h =
        All-cons IsGoodItem (item.Told x) done (All-head IsGoodItem (item.Told x) items h) (good-written w (All-tail IsGoodItem (item.Told x) items h))
    good-written (opens {open_names} {x} {items} {done} {merge} e w) h =
        good-written w (both_items (told (merge_rows context merge)) (item.Told x ∷ items)
        (tells_rows (merge_rows context merge) (good-merge merge (first-closed-of IsNamed open_names (row_names x) merge e
        (good-names x (All-head IsGoodItem (item.Told x) items h)))))
        h)
