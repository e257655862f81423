-- The rows of a procedure name, directly after a procedure, no argument register but those that the procedure takes.
use Rattle.std.proofs.Common.{◌≡◌, ◌<◌, ◌≤◌, ◌+◌, ◌-◌, zero, suc, ℕ, ℤ, pos, Bool, true, false, cond, nat_eq, ◌&&◌, Option, Some, None, List, [], ◌∷◌, ◌++◌, get_or, length, refl, sym, ap, subst, arith}
use Rattle.std.specs.Prelude.{All, Contains, IsTrue, slice_get}
use Rattle.std.specs.Ordering.{int_eq}
use Rattle.std.proofs.lemmas.Bool.{false≢true}
use Rattle.std.proofs.lemmas.Bool.Decides.{nat_tests}
use Rattle.std.proofs.lemmas.List.Elements.{All-nil, All-cons, All-append, All-contains, All-head, All-map, All-tail}
use Rattle.rt_base.proofs.Lists.{Contains-here, Contains-there}
use Rattle.rt_proc.specs.declared.proc.Proc.{Proc}
use Rattle.rt_proc.specs.declared.site.Callee.TheVariants as callee
use Rattle.rt_proc.specs.declared.site.Site.{Site}
use Rattle.rt_flow.specs.declared.def.Def.{Def}
use Rattle.rt_flow.specs.declared.def.Def.TheVariants as def
use Rattle.rt_flow.specs.Bodies.{Reaches}
use Rattle.rt_track.specs.declared.value.Value.{Value}
use Rattle.rt_track.specs.declared.value.Value.TheVariants as value
use Rattle.rt_track.specs.Candidates.{entry_value}
use Rattle.rt_track.specs.Values.{plus}
use Rattle.rt_body.specs.declared.action.Action.{Action}
use Rattle.rt_body.specs.declared.action.Action.TheVariants as action
use Rattle.rt_body.specs.declared.action.Address.{Address}
use Rattle.rt_body.specs.declared.action.Address.TheVariants as address
use Rattle.rt_body.specs.Readings.{action_at}
use Rattle.rt_body.specs.Right.{IsReading}
use Rattle.rt_liveness.specs.Programs.{Program}
use Rattle.rt_liveness.specs.Calls.{AreCallsIn, taken_registers}
use Rattle.rt_liveness.specs.Takes.{Takes, Procedure}
use Rattle.rt_frame.specs.declared.question.Question.TheVariants.{OfUse, OfDefinition}
use Rattle.rt_frame.specs.declared.spot.Spot.{Spot}
use Rattle.rt_frame.specs.declared.spot.Spot.TheVariants as spot
use Rattle.rt_frame.specs.Frames.{spot_at}
use Rattle.rt_frame.specs.Questions.{def_value, is_multi}
use Rattle.rt_lines.specs.declared.label.Label.{Label}
use Rattle.rt_lines.specs.declared.label.Label.TheVariants as label
use Rattle.rt_lines.specs.declared.label.Loc.TheVariants.{Arg}
use Rattle.rt_lines.specs.declared.line.Line.{Line}
use Rattle.rt_lines.specs.declared.line.Line.TheVariants as line
use Rattle.rt_lines.specs.declared.variable.Base.{Base}
use Rattle.rt_lines.specs.declared.variable.Base.TheVariants as base
use Rattle.rt_rules.specs.Alike.{map_line}
use Rattle.rt_rows.specs.declared.name.Name.{Name}
use Rattle.rt_rows.specs.declared.name.Name.TheVariants as name
use Rattle.rt_rows.specs.declared.row.Root.{Root}
use Rattle.rt_rows.specs.declared.row.Root.TheVariants as root
use Rattle.rt_rows.specs.declared.row.Row.{Row}
use Rattle.rt_rows.specs.declared.row.Row.TheVariants as row
use Rattle.rt_rows.specs.declared.row.Term.{Term}
use Rattle.rt_scheme.specs.declared.origin.Origin.{Origin}
use Rattle.rt_scheme.specs.declared.origin.Origin.TheVariants.{Port, Bound}
use Rattle.rt_scheme.specs.Instances.{instance_lines, instance_ports, instanced, instanced_side, number_of, origins}
use Rattle.rt_scheme.specs.Ports.{label_at}
use Rattle.rt_scheme.specs.Schemes.{AreSchemeLines, is_interface, is_scheme_line, is_scheme_side, is_scheme_variable}
use Rattle.rt_table.specs.declared.item.Item.{Item}
use Rattle.rt_table.specs.declared.item.Item.TheVariants as item
use Rattle.rt_table.specs.declared.pointer.Pointer.TheVariants.{Through, Nowhere}
use Rattle.rt_table.specs.declared.side.Side.{Side}
use Rattle.rt_table.specs.declared.side.Side.TheVariants.{Variable, Code}
use Rattle.rt_table.specs.Table.{AreProcedureRows, Context, Linked, Target, Member, Scheme, Held, Unknown, argument, at_side, calls_of, def_side, def_written, entry_side, filled, if_nothing_added, if_zero, instance_rows, is_argument, linked_at, merge_name, new_name, new_row, new_term, pointer, scheme_rows, spot_pointer, symbol_side, target_at, through, use_side, value_pointer, value_side}
use Rattle.rt_agreement.specs.Objects.{AreToldCalls, IsAsked}
use Rattle.rt_agreement.proofs.Letters.{Begins, begins-longer, IsLetteredRow, IsLetteredTerm}
use Rattle.rt_agreement.proofs.Walk.{AreKept, AreTerms, IsAddressOf, IsGood, IsGoodItem, IsPointerOf, IsSideOf, asks-address, good-items, good-written, taken_least, written-good}
use Rattle.rt_agreement.proofs.Using.{address_register, used_by}
use Rattle.rt_agreement.proofs.Entries.{IsRead, answered, computes_read, definition_taken, use_taken}

-- a letter that may follow the procedure of a number: of an argument in a register only if the procedure takes the register
abbrev pub IsTakenLetter : Program → ℕ → Label → Type 0
IsTakenLetter program p (label.In (Arg n)) = Takes program (Procedure p) (10 + n)
IsTakenLetter program p other = Unit {0}

-- the lines of a target's scheme are those of a scheme
abbrev pub IsOfScheme : Target → Type 0
IsOfScheme (Scheme own lines covered) = AreSchemeLines own lines
IsOfScheme other = Unit {0}

target_there : (here : List Linked) (i : ℕ) → ((linked : Linked) → Contains here linked → IsOfScheme linked.target) → IsOfScheme (target_at here i)
target_there [] i h = tt
target_there (linked ∷ more) zero h = h linked (Contains-here linked more)
target_there (linked ∷ more) (suc i) h = target_there more i (λ l c. h l (Contains-there linked more l c))

plus_entry : (v : Value) (k : ℤ) (reg : ℕ) (offset : ℤ) → plus v k ≡ value.Entry reg offset → (before : ℤ) × (v ≡ value.Entry reg before)
plus_entry (value.Entry r before) k reg offset e = let same : r ≡ reg = cc in (before, ap (λ n. value.Entry n before) same)
plus_entry (value.Const n) k reg offset e = cc
plus_entry (value.Sym g before) k reg offset e = cc
plus_entry (value.Frame before) k reg offset e = cc
plus_entry (value.At site r before) k reg offset e = cc
plus_entry value.Multi k reg offset e = cc

both_left : (b c : Bool) → IsTrue (b && c) → IsTrue b
both_left true c h = refl
both_left false c h = absurd (false≢true h)

both_right : (b c : Bool) → IsTrue (b && c) → IsTrue c
both_right true c h = h
both_right false c h = absurd (false≢true h)

-- what is passed to a procedure of the group is passed in registers that it takes
abbrev pub ArePassed : Program → Context → Type 0
ArePassed program context =
    (site : ℕ) (linked : Linked) (p r : ℕ) (words : List ℕ) → Contains (linked_at context site) linked → linked.target ≡ Member p words
    → Contains (taken_registers linked.call) r → Takes program (Procedure p) r

module _ (program : Program) (context : Context) (proc : Proc) (is_proc : slice_get program.procs context.procedure ≡ Some proc)
    (is_read : slice_get program.readings context.procedure ≡ Some context.reading) (is : IsReading program.object proc context.reading)
    (are : AreCallsIn program context.procedure proc (calls_of context))
    (no_tail : (s r : ℕ) (site : Site) → slice_get proc.sites s ≡ Some site → Contains site.tails (callee.Unknown r) → ⊥)
    (tells : AreToldCalls context) (passes : ArePassed program context)
    (of_scheme : (site : ℕ) (linked : Linked) → Contains (linked_at context site) linked → IsOfScheme linked.target) where
  -- a merge is of what is asked for
  abbrev IsFine : Name → Type 0
  IsFine (name.Merge p site r) = IsAsked context site (OfUse site r)
  IsFine other = Unit {0}

  abbrev IsFineRoot : Root → List Label → Type 0
  IsFineRoot (root.Proc p) w = Begins (IsTakenLetter program) p w
  IsFineRoot (root.Named n) w = IsFine n
  IsFineRoot other w = Unit {0}

  abbrev pub IsFineTerm : Term → Type 0
  IsFineTerm x = IsFineRoot x.root x.word

  abbrev IsSide : Option Side → Type 0
  IsSide o = IsSideOf IsFineTerm o

  abbrev IsTaken : ℕ → Type 0
  IsTaken r = Takes program (Procedure context.procedure) r

  abbrev Reads : ℕ → ℕ → Type 0
  Reads s r = IsRead program context.procedure proc context.reading (calls_of context) is_proc is_read is are no_tail s r

  longer_root : (r : Root) (w letters : List Label) → IsFineRoot r w → IsFineRoot r (w ++ letters)
  longer_root (root.Proc p) w letters h = begins-longer (IsTakenLetter program) p w letters h
  longer_root (root.Named n) w letters h = h
  longer_root (root.Global g) w letters h = tt
  longer_root (root.Outer n) w letters h = tt

  terms : AreTerms context IsFineTerm
  terms = record {
    longer = λ x letters h. longer_root x.root x.word letters h;
    written = λ site r. tt;
    of_port = λ site i l. tt;
    of_unknown = λ site i. tt;
    of_result = λ p r. tt;
    of_word = λ p k. tt;
    of_argument = λ site linked p r words there e taken.
        let least : 10 ≤ r = taken_least linked.call r taken in
        let same : r ≡ 10 + (r - 10) = omega (arith, least) in
        subst (Takes program (Procedure p)) same (passes site linked p r words there e taken);
  }

  -- what is asked for, is read
  asked_read : (site r : ℕ) → IsAsked context site (OfUse site r) → Reads site r
  asked_read site r asked =
      answered program context.procedure proc context.reading (calls_of context) is_proc is_read is are no_tail site asked.0 (OfUse site r) asked.1

  -- Sides.

  zero_side : (offset : ℤ) (side : Side) → IsSide (Some side) → IsSide (if_zero offset side)
  zero_side offset side h = elim (int_eq offset (pos 0)) as (λ b. IsSide (cond b (Some side) None)) [ true ↦ h | false ↦ tt ]

  nothing_added : (offset : ℤ) (side : Option Side) → IsSide side → IsSide (if_nothing_added offset side)
  nothing_added offset side h = elim (int_eq offset (pos 0)) as (λ b. IsSide (cond b side None)) [ true ↦ h | false ↦ tt ]

  argument_fine : (r : ℕ) → is_argument r ≡ true → IsTaken r → IsFineTerm (argument context r)
  argument_fine r e taken =
      let least : 10 ≤ r = grind (arith, nat_tests) in
      let same : r ≡ 10 + (r - 10) = omega (arith, least) in
      subst IsTaken same taken

  entry : (r : ℕ) (offset : ℤ) → (is_argument r ≡ true → IsTaken r) → IsSide (entry_side context r offset)
  entry r offset h = by (is_argument r) refl
    where
      by : (b : Bool) → is_argument r ≡ b → IsSide (cond b (if_zero offset (Variable (argument context r))) None)
      by true e = zero_side offset (Variable (argument context r)) (argument_fine r e (h e))
      by false e = tt

  symbol : (g : ℕ) → IsSide (Some (symbol_side context g))
  symbol g =
      elim (context.is_code g) as (λ b. IsSide (Some (cond b Code (Variable (record { root = root.Global g; word = [] })))))
      [ true ↦ tt | false ↦ tt ]

  -- a value is what an argument register held at the entry only if that is taken
  abbrev IsValueTaken : Value → Type 0
  IsValueTaken v = (reg : ℕ) (k : ℤ) → v ≡ value.Entry reg k → is_argument reg ≡ true → IsTaken reg

  side : (written : ℕ → ℕ → Option Side) → ((site r : ℕ) → IsSide (written site r)) → (own : Name) (v : Value) → (v ≡ value.Multi → IsFine own) → IsValueTaken v
      → IsSide (value_side context written own v)
  side written w own (value.Entry r offset) o h = entry r offset (h r offset refl)
  side written w own (value.At site r offset) o h = nothing_added offset (written site r) (w site r)
  side written w own (value.Sym g offset) o h = zero_side offset (symbol_side context g) (symbol g)
  side written w own (value.Frame k) o h = tt
  side written w own value.Multi o h = o refl
  side written w own (value.Const n) o h = tt

  value_taken : (site r : ℕ) → IsAsked context site (OfUse site r) → IsValueTaken (context.reading.value_at site r)
  value_taken site r asked reg k e argument =
      use_taken program context.procedure proc context.reading (calls_of context) is_proc is_read is are no_tail site r reg k (asked_read site r asked) e argument

  of_use : (written : ℕ → ℕ → Option Side) → ((site r : ℕ) → IsSide (written site r)) → (site r : ℕ) → IsAsked context site (OfUse site r)
      → IsSide (value_side context written (merge_name context site r) (context.reading.value_at site r))
  of_use written w site r asked = side written w (merge_name context site r) (context.reading.value_at site r) (λ e. asked) (value_taken site r asked)

  at_good : (steps site r : ℕ) → IsSide (at_side steps context site r)
  at_good zero site r = tt
  at_good (suc steps) site r =
      written-good context IsFineTerm terms tells
      (λ (q r : ℕ). value_side context (at_side steps context) (merge_name context q r) (context.reading.value_at q r))
      (λ q r asked. of_use (at_side steps context) (at_good steps) q r asked) site r

  written : (site r : ℕ) → IsSide (def_written context site r)
  written site r = at_good (length context.reading.actions) site r

  used : (site r : ℕ) → IsAsked context site (OfUse site r) → IsSide (use_side context site r)
  used site r asked = of_use (def_written context) written site r asked

  -- Definitions.

  entry_is : (r reg : ℕ) (k : ℤ) → entry_value r ≡ value.Entry reg k → r ≡ reg
  entry_is r reg k e =
      elim (nat_eq r 2) as (λ b. cond b (value.Frame (pos 0)) (value.Entry r (pos 0)) ≡ value.Entry reg k → r ≡ reg) [
        | true ↦ λ (is_frame : value.Frame (pos 0) ≡ value.Entry reg k). cc
        | false ↦ λ (is_entry : value.Entry r (pos 0) ≡ value.Entry reg k). cc
      ]
      e

  def_taken : (site r : ℕ) (d : Def) → site < length context.reading.actions → (d ≡ def.Entry → Reads site r) → Contains (context.reading.reaching site r) d
      → IsValueTaken (def_value context.reading r d)
  def_taken site r def.Entry less read there reg k e argument =
      let same : r ≡ reg = entry_is r reg k e in
      let reaches : Reaches context.reading.body (pos r) def.Entry site = ((is.reaching site r less).reaching def.Entry).0 there in
      subst IsTaken same (read refl (subst (λ n. is_argument n ≡ true) (sym same) argument) reaches)
  def_taken site r (def.At s) less read there reg k e argument =
      definition_taken program context.procedure proc context.reading (calls_of context) is_proc is_read is are no_tail s r reg k e argument

  of_def : (r : ℕ) (d : Def) → IsValueTaken (def_value context.reading r d) → IsSide (def_side context r d)
  of_def r def.Entry h = side (def_written context) written (name.Definition context.procedure 0 r) (def_value context.reading r def.Entry) (λ e. tt) h
  of_def r (def.At site) h = side (def_written context) written (name.Definition context.procedure site r) (def_value context.reading r (def.At site)) (λ e. tt) h

  defined : (site r : ℕ) (d : Def) → IsAsked context site (OfDefinition d r) → IsSide (def_side context r d)
  defined site r d asked =
      let told = answered program context.procedure proc context.reading (calls_of context) is_proc is_read is are no_tail site asked.0 (OfDefinition d r) asked.1 in
      of_def r d (def_taken site r d asked.0 told.0 told.1)

  -- Addresses.

  throughs : (o : Option Side) (k : ℤ) → IsSide o → IsPointerOf IsFineTerm (through o k)
  throughs None k h = tt
  throughs (Some Code) k h = tt
  throughs (Some (Variable x)) k h = h

  spots : (p : Spot) → IsPointerOf IsFineTerm (spot_pointer context p)
  spots (spot.OnObject start distance) = tt
  spots (spot.Location k) = tt

  values : (v : Value) → IsValueTaken v → IsPointerOf IsFineTerm (value_pointer context v)
  values (value.Entry r offset) h = by (is_argument r) refl
    where
      by : (b : Bool) → is_argument r ≡ b → IsPointerOf IsFineTerm (cond b (Through (argument context r) offset) Nowhere)
      by true e = argument_fine r e (h r offset refl e)
      by false e = tt
  values (value.At site r offset) h = throughs (def_written context site r) offset (written site r)
  values (value.Sym g offset) h = throughs (Some (symbol_side context g)) offset (symbol g)
  values (value.Frame k) h = spots (spot_at context.frame.layout k)
  values (value.Const n) h = tt
  values value.Multi h = tt

  -- the register of an address is read
  address_used : (r : ℕ) (k : ℤ) (act : Action) → IsAddressOf (address.Register r k) act → Contains (used_by act) r × (act ≡ action.Return → ⊥)
  address_used r k (action.Load l to a) e = (subst (λ (b : Address). Contains (address_register b) r) e (Contains-here r []), λ returns. cc)
  address_used r k (action.Store w n a) e =
      (subst (λ (b : Address). Contains (address_register b ++ n ∷ []) r) e (Contains-here r (n ∷ [])), λ returns. cc)
  address_used r k (action.Constant to v) e = absurd e
  address_used r k (action.Symbol to g a) e = absurd e
  address_used r k (action.AddImmediate to from n) e = absurd e
  address_used r k (action.Add to left right) e = absurd e
  address_used r k (action.Compute o to left right) e = absurd e
  address_used r k (action.Compare left right) e = absurd e
  address_used r k (action.Write to) e = absurd e
  address_used r k action.Pass e = absurd e
  address_used r k (action.Call callee link) e = absurd e
  address_used r k action.Return e = absurd e
  address_used r k action.Stop e = absurd e

  addressed : (site : ℕ) (a : Address) → site < length context.reading.actions → IsAddressOf a (action_at context.reading.actions site)
      → IsPointerOf IsFineTerm (pointer context site a)
  addressed site (address.Symbol g addend) less at = values (value.Sym g addend) (λ reg k e argument. cc)
  addressed site (address.Register r k) less at = by (is_multi (context.reading.value_at site r)) refl
    where
      by : (b : Bool) → is_multi (context.reading.value_at site r) ≡ b
          → IsPointerOf IsFineTerm (cond b (Through (record { root = root.Named (merge_name context site r); word = [] }) k) (value_pointer context (plus (context.reading.value_at site r) k)))
      by true e = asks-address context site r k (action_at context.reading.actions site) less refl at e
      by false e =
          let read : Reads site r = let taken = address_used r k (action_at context.reading.actions site) at in
          computes_read program context.procedure proc context.reading (calls_of context) is_proc is_read is are no_tail site r taken.0 taken.1 in
          values (plus (context.reading.value_at site r) k)
          (λ reg offset same argument. let (before, value_is) = plus_entry (context.reading.value_at site r) k reg offset same in
          use_taken program context.procedure proc context.reading (calls_of context) is_proc is_read is are no_tail site r reg before read value_is argument)

  -- Merges.

  merged : (p site r : ℕ) (x : Term) → IsFineTerm x → x.root ≡ root.Named (name.Merge p site r)
      → IsFine (name.Merge p site r) × ((d : Def) → Contains (context.reading.reaching site r) d → IsSide (def_side context r d))
  merged p site r x h e =
      let asked : IsAsked context site (OfUse site r) = subst (λ (o : Root). IsFineRoot o x.word) e h in
      (asked, λ d c. of_def r d (def_taken site r d asked.0 (λ same. asked_read site r asked) c))

  kept : AreKept context IsFineTerm
  kept = record { terms = terms; used = used; defined = defined; addressed = addressed; merged = merged }

  -- Rows.

  abbrev IsFineRow : Row → Type 0
  IsFineRow r = IsGood context IsFineTerm r

  -- an instance names no procedure, and no merge
  module _ (site i own : ℕ) (ports : List (Label × ℕ)) (order : List Origin) where
    new_names : (n : ℕ) (o : Option Label) → IsFine (new_name context site i n o)
    new_names n (Some l) = tt
    new_names n None = tt

    variable : (b : Base) (w : List Label) → IsTrue (is_scheme_side own b w) → IsFineTerm (new_term context site i ports (instanced_side own 0 order b w))
    variable (base.Proc n) [] h = absurd (false≢true (both_right (nat_eq n own) false h))
    variable (base.Proc n) (l ∷ w) h =
        elim (nat_eq n own)
        as (λ b. IsTrue (b && is_interface (l ∷ w)) →
        IsFineTerm (new_term context site i ports (cond b (record { base = base.Exist (number_of 0 order (Port l)); word = w }) (record { base = base.Proc n; word = l ∷ w }))))
        [ true ↦ λ t. new_names (number_of 0 order (Port l)) (label_at ports (number_of 0 order (Port l))) | false ↦ λ t. absurd (false≢true t) ]
        h
    variable (base.Global n) w h = tt
    variable (base.Exist n) w h = new_names (number_of 0 order (Bound n)) (label_at ports (number_of 0 order (Bound n)))
    variable (base.Outer n) w h = absurd (false≢true h)

    row_fine : (l : Line) → IsTrue (is_scheme_line own l) → IsFineRow (new_row context site i ports (map_line (instanced own 0 order) l))
    row_fine (line.Var x) h = variable x.base x.word h
    row_fine (line.Same x y) h = (
      variable x.base x.word (both_left (is_scheme_variable own x) (is_scheme_variable own y) h),
      variable y.base y.word (both_right (is_scheme_variable own x) (is_scheme_variable own y) h),
    )
    row_fine (line.Sub x y) h = (
      variable x.base x.word (both_left (is_scheme_variable own x) (is_scheme_variable own y) h),
      variable y.base y.word (both_right (is_scheme_variable own x) (is_scheme_variable own y) h),
    )
    row_fine (line.Low k x) h = variable x.base x.word h
    row_fine (line.Up x k) h = variable x.base x.word h

  scheme_fine : (site i : ℕ) (target : Target) → IsOfScheme target → All IsFineRow (scheme_rows context site i target)
  scheme_fine site i (Scheme own lines covered) h =
      All-map IsFineRow (new_row context site i (instance_ports own lines 0)) (instance_lines own lines 0)
      (All-map (λ l. IsFineRow (new_row context site i (instance_ports own lines 0) l)) (map_line (instanced own 0 (origins own lines))) lines
      (λ k d less. row_fine site i own (instance_ports own lines 0) (origins own lines) (get_or lines k d) (h k d less)))
  scheme_fine site i (Member p words) h = All-nil IsFineRow
  scheme_fine site i (Held r) h = All-nil IsFineRow
  scheme_fine site i Unknown h = All-nil IsFineRow

  filled_fine : (items : List Item) → All (IsGoodItem context IsFineTerm) items → All IsFineRow (filled (instance_rows context) items)
  filled_fine [] h = All-nil IsFineRow
  filled_fine (item.Told x ∷ items) h =
      All-cons IsFineRow x (filled (instance_rows context) items) (All-head (IsGoodItem context IsFineTerm) (item.Told x) items h)
      (filled_fine items (All-tail (IsGoodItem context IsFineTerm) (item.Told x) items h))
  filled_fine (item.Instance site i ∷ items) h =
      All-append IsFineRow (instance_rows context site i) (filled (instance_rows context) items)
      (scheme_fine site i (target_at (linked_at context site) i) (target_there (linked_at context site) i (of_scheme site)))
      (filled_fine items (All-tail (IsGoodItem context IsFineTerm) (item.Instance site i) items h))

  rows_fine : (rows : List Row) → AreProcedureRows context rows → All IsFineRow rows
  rows_fine rows told =
      subst (All IsFineRow) (sym told.filled_in)
      (filled_fine told.items (good-written context IsFineTerm kept tells told.writes (good-items context IsFineTerm kept tells)))

  term_lettered : (x : Term) → IsFineTerm x → IsLetteredTerm (IsTakenLetter program) x
  term_lettered x h n e = subst (λ (o : Root). IsFineRoot o x.word) e h

  row_lettered : (r : Row) → IsFineRow r → IsLetteredRow (IsTakenLetter program) r
  row_lettered (row.Var x) h = term_lettered x h
  row_lettered (row.Same x y) h = (term_lettered x h.0, term_lettered y h.1)
  row_lettered (row.Sub x y) h = (term_lettered x h.0, term_lettered y h.1)
  row_lettered (row.Low k x) h = term_lettered x h
  row_lettered (row.Up x k) h = term_lettered x h

  pub rows-lettered : (rows : List Row) → AreProcedureRows context rows → (r : Row) → Contains rows r → IsLetteredRow (IsTakenLetter program) r
  rows-lettered rows told r there = row_lettered r (All-contains IsFineRow rows r (rows_fine rows told) there)
