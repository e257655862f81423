-- The rows of a procedure name only objects of its frame that are taken.
use Rattle.std.proofs.Common.{◌≡◌, ◌<◌, ◌-ℤ◌, zero, suc, ℕ, ℤ, pos, Bool, true, false, cond, ◌⊎◌, inl, inr, Option, Some, None, List, [], ◌∷◌, ◌++◌, get_or, length, map, refl, sym, ap, subst}
use Rattle.std.specs.Prelude.{All, Contains, int_lt}
use Rattle.std.specs.Int.{int_wrap, w32}
use Rattle.std.specs.List.{list_any}
use Rattle.std.specs.Ordering.{int_eq}
use Rattle.std.proofs.lemmas.List.Elements.{All-nil, All-cons, All-append, All-contains, All-head, All-map, All-tail, Contains-append_cases}
use Rattle.rt_base.proofs.Lists.{Contains-none, Contains-here, Contains-there, Contains-cons_cases}
use Rattle.rt_flow.specs.declared.def.Def.{Def}
use Rattle.rt_flow.specs.declared.def.Def.TheVariants as def
use Rattle.rt_track.specs.declared.value.Value.{Value}
use Rattle.rt_track.specs.declared.value.Value.TheVariants as value
use Rattle.rt_track.specs.Values.{plus}
use Rattle.rt_body.specs.declared.action.Address.{Address}
use Rattle.rt_body.specs.declared.action.Address.TheVariants as address
use Rattle.rt_body.specs.Readings.{action_at}
use Rattle.rt_frame.specs.declared.question.Question.{Question}
use Rattle.rt_frame.specs.declared.question.Question.TheVariants.{OfUse, OfDefinition}
use Rattle.rt_frame.specs.declared.spot.Spot.{Spot}
use Rattle.rt_frame.specs.declared.spot.Spot.TheVariants as spot
use Rattle.rt_frame.specs.Frames.{IsFrameOf, IsOfFrame, greatest_upto, is_from_to, later_or, spot_at, spot_from}
use Rattle.rt_frame.specs.Questions.{def_value, is_multi}
use Rattle.rt_lines.specs.declared.label.Label.{Label}
use Rattle.rt_lines.specs.declared.line.Line.{Line}
use Rattle.rt_lines.specs.declared.line.Line.TheVariants as line
use Rattle.rt_lines.specs.declared.variable.Base.{Base}
use Rattle.rt_lines.specs.declared.variable.Base.TheVariants as base
use Rattle.rt_rows.specs.declared.name.Name.{Name}
use Rattle.rt_rows.specs.declared.name.Name.TheVariants as name
use Rattle.rt_rows.specs.declared.row.Root.{Root}
use Rattle.rt_rows.specs.declared.row.Root.TheVariants as root
use Rattle.rt_rows.specs.declared.row.Row.{Row}
use Rattle.rt_rows.specs.declared.row.Row.TheVariants as row
use Rattle.rt_rows.specs.declared.row.Term.{Term}
use Rattle.rt_rows.specs.Terms.{root_names, row_names}
use Rattle.rt_scheme.specs.Instances.{instance_lines, instance_ports}
use Rattle.rt_scheme.specs.Ports.{label_at}
use Rattle.rt_table.specs.declared.item.Item.{Item}
use Rattle.rt_table.specs.declared.item.Item.TheVariants as item
use Rattle.rt_table.specs.declared.pointer.Pointer.TheVariants.{Through, Nowhere}
use Rattle.rt_table.specs.declared.side.Side.{Side}
use Rattle.rt_table.specs.declared.side.Side.TheVariants.{Variable, Code}
use Rattle.rt_table.specs.Table.{AreProcedureRows, Context, Target, Member, Scheme, Held, Unknown, argument, at_side, calls_of, def_side, def_written, entry_side, filled, if_nothing_added, if_zero, instance_rows, is_argument, linked_at, merge_name, new_name, new_root, new_row, pointer, scheme_rows, spot_pointer, symbol_side, target_at, through, use_side, value_pointer, value_side}
use Rattle.rt_agreement.specs.Objects.{AreToldCalls, IsAsked}
use Rattle.rt_agreement.proofs.Walk.{AreKept, AreTerms, IsAddressOf, IsGood, IsGoodItem, IsPointerOf, IsSideOf, asks-address, good-items, good-written, written-good}

-- the greatest of offsets that isn't above one is one of them
greatest_there : (k : ℤ) (offsets : List ℤ) (a : ℤ) → greatest_upto k offsets ≡ Some a → Contains offsets a
greatest_there k [] a e = cc
greatest_there k (x ∷ offsets) a e =
    elim (int_lt k x) as (λ b. cond b (greatest_upto k offsets) (later_or (greatest_upto k offsets) x) ≡ Some a → Contains (x ∷ offsets) a) [
      | true ↦ λ (later : greatest_upto k offsets ≡ Some a). Contains-there x offsets a (greatest_there k offsets a later)
      | false ↦ by (greatest_upto k offsets) (greatest_there k offsets)
    ]
    e
  where
    by : (later : Option ℤ) → ((b : ℤ) → later ≡ Some b → Contains offsets b) → later_or later x ≡ Some a → Contains (x ∷ offsets) a
    by None there is = let same : x ≡ a = cc in subst (Contains (x ∷ offsets)) same (Contains-here x offsets)
    by (Some later) there is = Contains-there x offsets a (there a is)

-- an access on an object is on one that begins at an offset of the list
object_there : (k : ℤ) (saved taken : List ℤ) (start distance : ℤ) → spot_from saved k (greatest_upto k taken) ≡ spot.OnObject start distance → Contains taken start
object_there k saved taken start distance e = by (greatest_upto k taken) (greatest_there k taken) e
  where
    by : (last : Option ℤ) → ((b : ℤ) → last ≡ Some b → Contains taken b) → spot_from saved k last ≡ spot.OnObject start distance → Contains taken start
    by None there is = cc
    by (Some a) there is =
        elim (list_any (is_from_to a k) saved) as (λ b. cond b (spot.Location k) (spot.OnObject a (int_wrap w32 (k -ℤ a))) ≡ spot.OnObject start distance → Contains taken start) [
          | true ↦ λ (other : spot.Location k ≡ spot.OnObject start distance). cc
          | false ↦ λ (on : spot.OnObject a (int_wrap w32 (k -ℤ a)) ≡ spot.OnObject start distance). (let same : a ≡ start = cc in there start (ap Some same))
        ]
        is

several : (v : Value) → is_multi v ≡ true → v ≡ value.Multi
several value.Multi e = refl
several (value.Const n) e = cc
several (value.Sym g offset) e = cc
several (value.Frame k) e = cc
several (value.Entry r offset) e = cc
several (value.At site r offset) e = cc

module _ (context : Context) (frame : IsFrameOf context.reading (calls_of context) context.frame) (tells : AreToldCalls context) where
  -- an object is one of the frame that is taken, and a merge one of several values that are asked for
  abbrev pub IsFine : Name → Type 0
  IsFine (name.Object p k) = (p ≡ context.procedure) × Contains context.frame.layout.taken k
  IsFine (name.Merge p site r) = IsAsked context site (OfUse site r) × (context.reading.value_at site r ≡ value.Multi)
  IsFine other = Unit {0}

  abbrev IsFineRoot : Root → Type 0
  IsFineRoot (root.Named n) = IsFine n
  IsFineRoot other = Unit {0}

  abbrev pub IsFineTerm : Term → Type 0
  IsFineTerm x = IsFineRoot x.root

  abbrev IsSide : Option Side → Type 0
  IsSide o = IsSideOf IsFineTerm o

  terms : AreTerms context IsFineTerm
  terms = record {
    longer = λ x letters h. h;
    written = λ site r. tt;
    of_port = λ site i l. tt;
    of_unknown = λ site i. tt;
    of_result = λ p r. tt;
    of_word = λ p k. tt;
    of_argument = λ site linked q r words there e taken. tt;
  }

  -- what is asked for and is the frame at an offset is taken there
  taken_of : (site : ℕ) (q : Question) (k : ℤ) → IsAsked context site q → IsOfFrame context.reading k q → Contains context.frame.layout.taken k
  taken_of site q k asked is = (frame.taken k).1 (record { site = site; within = asked.0; question = q; asked = asked.1; is_of_frame = is })

  -- Sides.

  zero_side : (offset : ℤ) (side : Side) → IsSide (Some side) → IsSide (if_zero offset side)
  zero_side offset side h = elim (int_eq offset (pos 0)) as (λ b. IsSide (cond b (Some side) None)) [ true ↦ h | false ↦ tt ]

  nothing_added : (offset : ℤ) (side : Option Side) → IsSide side → IsSide (if_nothing_added offset side)
  nothing_added offset side h = elim (int_eq offset (pos 0)) as (λ b. IsSide (cond b side None)) [ true ↦ h | false ↦ tt ]

  entry : (r : ℕ) (offset : ℤ) → IsSide (entry_side context r offset)
  entry r offset =
      elim (is_argument r) as (λ b. IsSide (cond b (if_zero offset (Variable (argument context r))) None))
      [ true ↦ zero_side offset (Variable (argument context r)) tt | false ↦ tt ]

  symbol : (g : ℕ) → IsSide (Some (symbol_side context g))
  symbol g =
      elim (context.is_code g) as (λ b. IsSide (Some (cond b Code (Variable (record { root = root.Global g; word = [] })))))
      [ true ↦ tt | false ↦ tt ]

  side : (written : ℕ → ℕ → Option Side) → ((site r : ℕ) → IsSide (written site r)) → (own : Name) (v : Value) → (v ≡ value.Multi → IsFine own)
      → ((k : ℤ) → v ≡ value.Frame k → Contains context.frame.layout.taken k) → IsSide (value_side context written own v)
  side written w own (value.Entry r offset) o h = entry r offset
  side written w own (value.At site r offset) o h = nothing_added offset (written site r) (w site r)
  side written w own (value.Sym g offset) o h = zero_side offset (symbol_side context g) (symbol g)
  side written w own (value.Frame k) o h = (refl, h k refl)
  side written w own value.Multi o h = o refl
  side written w own (value.Const n) o h = tt

  of_use : (written : ℕ → ℕ → Option Side) → ((site r : ℕ) → IsSide (written site r)) → (site r : ℕ) → IsAsked context site (OfUse site r)
      → IsSide (value_side context written (merge_name context site r) (context.reading.value_at site r))
  of_use written w site r asked =
      side written w (merge_name context site r) (context.reading.value_at site r) (λ e. (asked, e)) (λ k e. taken_of site (OfUse site r) k asked (inl e))

  at_good : (steps site r : ℕ) → IsSide (at_side steps context site r)
  at_good zero site r = tt
  at_good (suc steps) site r =
      written-good context IsFineTerm terms tells
      (λ (q r : ℕ). value_side context (at_side steps context) (merge_name context q r) (context.reading.value_at q r))
      (λ q r asked. of_use (at_side steps context) (at_good steps) q r asked) site r

  written : (site r : ℕ) → IsSide (def_written context site r)
  written site r = at_good (length context.reading.actions) site r

  used : (site r : ℕ) → IsAsked context site (OfUse site r) → IsSide (use_side context site r)
  used site r asked = of_use (def_written context) written site r asked

  -- the side of a definition, where it isn't the frame at an offset that isn't taken
  of_def : (r : ℕ) (d : Def) → ((k : ℤ) → def_value context.reading r d ≡ value.Frame k → Contains context.frame.layout.taken k) → IsSide (def_side context r d)
  of_def r def.Entry h = side (def_written context) written (name.Definition context.procedure 0 r) (def_value context.reading r def.Entry) (λ e. tt) h
  of_def r (def.At site) h = side (def_written context) written (name.Definition context.procedure site r) (def_value context.reading r (def.At site)) (λ e. tt) h

  defined : (site r : ℕ) (d : Def) → IsAsked context site (OfDefinition d r) → IsSide (def_side context r d)
  defined site r d asked = of_def r d (λ k e. taken_of site (OfDefinition d r) k asked e)

  -- Addresses.

  throughs : (o : Option Side) (k : ℤ) → IsSide o → IsPointerOf IsFineTerm (through o k)
  throughs None k h = tt
  throughs (Some Code) k h = tt
  throughs (Some (Variable x)) k h = h

  spots : (p : Spot) → ((start distance : ℤ) → p ≡ spot.OnObject start distance → Contains context.frame.layout.taken start) → IsPointerOf IsFineTerm (spot_pointer context p)
  spots (spot.OnObject start distance) h = (refl, h start distance refl)
  spots (spot.Location k) h = tt

  values : (v : Value) → IsPointerOf IsFineTerm (value_pointer context v)
  values (value.Entry r offset) =
      elim (is_argument r) as (λ b. IsPointerOf IsFineTerm (cond b (Through (argument context r) offset) Nowhere)) [ true ↦ tt | false ↦ tt ]
  values (value.At site r offset) = throughs (def_written context site r) offset (written site r)
  values (value.Sym g offset) = throughs (Some (symbol_side context g)) offset (symbol g)
  values (value.Frame k) =
      spots (spot_at context.frame.layout k) (λ start distance e. object_there k context.frame.layout.saved context.frame.layout.taken start distance e)
  values (value.Const n) = tt
  values value.Multi = tt

  addressed : (site : ℕ) (a : Address) → site < length context.reading.actions → IsAddressOf a (action_at context.reading.actions site)
      → IsPointerOf IsFineTerm (pointer context site a)
  addressed site (address.Symbol g addend) less is = values (value.Sym g addend)
  addressed site (address.Register r k) less is = by (is_multi (context.reading.value_at site r)) refl
    where
      by : (b : Bool) → is_multi (context.reading.value_at site r) ≡ b
          → IsPointerOf IsFineTerm (cond b (Through (record { root = root.Named (merge_name context site r); word = [] }) k) (value_pointer context (plus (context.reading.value_at site r) k)))
      by true e = (asks-address context site r k (action_at context.reading.actions site) less refl is e, several (context.reading.value_at site r) e)
      by false e = values (plus (context.reading.value_at site r) k)

  -- Merges.

  merged : (p site r : ℕ) (x : Term) → IsFineTerm x → x.root ≡ root.Named (name.Merge p site r)
      → IsFine (name.Merge p site r) × ((d : Def) → Contains (context.reading.reaching site r) d → IsSide (def_side context r d))
  merged p site r x h e =
      let fine : IsFine (name.Merge p site r) = subst IsFineRoot e h in
      (fine, λ d c. of_def r d (λ k is. taken_of site (OfUse site r) k fine.0 (inr (fine.1, (d, c, is)))))

  kept : AreKept context IsFineTerm
  kept = record { terms = terms; used = used; defined = defined; addressed = addressed; merged = merged }

  -- Rows.

  abbrev IsFineRow : Row → Type 0
  IsFineRow r = IsGood context IsFineTerm r

  -- instances name no object and no merge
  new_names : (site i n : ℕ) (o : Option Label) → IsFine (new_name context site i n o)
  new_names site i n (Some l) = tt
  new_names site i n None = tt

  new_roots : (site i : ℕ) (ports : List (Label × ℕ)) (b : Base) → IsFineRoot (new_root context site i ports b)
  new_roots site i ports (base.Proc p) = tt
  new_roots site i ports (base.Global g) = tt
  new_roots site i ports (base.Exist n) = new_names site i n (label_at ports n)
  new_roots site i ports (base.Outer n) = tt

  new_rows : (site i : ℕ) (ports : List (Label × ℕ)) (l : Line) → IsFineRow (new_row context site i ports l)
  new_rows site i ports (line.Var x) = new_roots site i ports x.base
  new_rows site i ports (line.Same x y) = (new_roots site i ports x.base, new_roots site i ports y.base)
  new_rows site i ports (line.Sub x y) = (new_roots site i ports x.base, new_roots site i ports y.base)
  new_rows site i ports (line.Low k x) = new_roots site i ports x.base
  new_rows site i ports (line.Up x k) = new_roots site i ports x.base

  lines_fine : (site i : ℕ) (ports : List (Label × ℕ)) (ls : List Line) → All IsFineRow (map (new_row context site i ports) ls)
  lines_fine site i ports ls = All-map IsFineRow (new_row context site i ports) ls (λ k d less. new_rows site i ports (get_or ls k d))

  scheme_fine : (site i : ℕ) (target : Target) → All IsFineRow (scheme_rows context site i target)
  scheme_fine site i (Scheme own lines covered) = lines_fine site i (instance_ports own lines 0) (instance_lines own lines 0)
  scheme_fine site i (Member q words) = All-nil IsFineRow
  scheme_fine site i (Held r) = All-nil IsFineRow
  scheme_fine site i Unknown = All-nil IsFineRow

  filled_fine : (items : List Item) → All (IsGoodItem context IsFineTerm) items → All IsFineRow (filled (instance_rows context) items)
  filled_fine [] h = All-nil IsFineRow
  filled_fine (item.Told x ∷ items) h =
      All-cons IsFineRow x (filled (instance_rows context) items) (All-head (IsGoodItem context IsFineTerm) (item.Told x) items h)
      (filled_fine items (All-tail (IsGoodItem context IsFineTerm) (item.Told x) items h))
  filled_fine (item.Instance site i ∷ items) h =
      All-append IsFineRow (instance_rows context site i) (filled (instance_rows context) items) (scheme_fine site i (target_at (linked_at context site) i))
      (filled_fine items (All-tail (IsGoodItem context IsFineTerm) (item.Instance site i) items h))

  rows_fine : (rows : List Row) → AreProcedureRows context rows → All IsFineRow rows
  rows_fine rows is =
      subst (All IsFineRow) (sym is.filled_in)
      (filled_fine is.items (good-written context IsFineTerm kept tells is.writes (good-items context IsFineTerm kept tells)))

  root_fine : (r : Root) (n : Name) → IsFineRoot r → Contains (root_names r) n → IsFine n
  root_fine (root.Proc p) n h c = absurd (Contains-none n c)
  root_fine (root.Global g) n h c = absurd (Contains-none n c)
  root_fine (root.Outer m) n h c = absurd (Contains-none n c)
  root_fine (root.Named m) n h c = by (Contains-cons_cases m [] n c)
    where
      by : (m ≡ n) ⊎ Contains [] n → IsFine n
      by (inl e) = subst IsFine e h
      by (inr d) = absurd (Contains-none n d)

  both_fine : (r s : Root) (n : Name) → IsFineRoot r → IsFineRoot s → Contains (root_names r ++ root_names s) n → IsFine n
  both_fine r s n h k c = by (Contains-append_cases (root_names r) (root_names s) n c)
    where
      by : Contains (root_names r) n ⊎ Contains (root_names s) n → IsFine n
      by (inl d) = root_fine r n h d
      by (inr d) = root_fine s n k d

  row_fine : (r : Row) (n : Name) → IsFineRow r → Contains (row_names r) n → IsFine n
  row_fine (row.Var x) n h c = root_fine x.root n h c
  row_fine (row.Same x y) n h c = both_fine x.root y.root n h.0 h.1 c
  row_fine (row.Sub x y) n h c = both_fine x.root y.root n h.0 h.1 c
  row_fine (row.Low k x) n h c = root_fine x.root n h c
  row_fine (row.Up x k) n h c = root_fine x.root n h c

  pub named-fine : (rows : List Row) (r : Row) (n : Name) → AreProcedureRows context rows → Contains rows r → Contains (row_names r) n → IsFine n
  named-fine rows r n is there c = row_fine r n (All-contains IsFineRow rows r (rows_fine rows is) there) c

pub objects_taken : (context : Context) (rows : List Row) (r : Row) (procedure : ℕ) (start : ℤ) → IsFrameOf context.reading (calls_of context) context.frame
    → AreToldCalls context → AreProcedureRows context rows → Contains rows r → Contains (row_names r) (name.Object procedure start)
    → (procedure ≡ context.procedure) × Contains context.frame.layout.taken start
objects_taken context rows r procedure start frame tells is there c = named-fine context frame tells rows r (name.Object procedure start) is there c
