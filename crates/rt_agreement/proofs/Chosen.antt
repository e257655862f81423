-- Schemes that are chosen name only argument registers that their procedures take, group after group.
use Rattle.std.proofs.Common.{◌≡◌, ◌⊎◌, inl, inr, ◌+◌, ◌<◌, ◌≤◌, zero, suc, ℕ, ℤ, true, false, Option, Some, None, List, [], ◌∷◌, ◌++◌, flat_map, filter, get_or, length, refl, sym, ap, subst, ◌∙◌, true≢false, arith}
use Rattle.std.specs.Prelude.{Contains, not, slice_get, slice_index_or}
use Rattle.std.proofs.lemmas.Bool.{cases_eq, cases_lt, eq-eqb}
use Rattle.std.proofs.lemmas.List.{append-nil, get_or_default, get_or_past, same_lists}
use Rattle.std.proofs.lemmas.List.Elements.{All-nil, Contains-append_cases, Contains-get_or}
use Rattle.std.proofs.lemmas.Option.{get_or_from_slice_get, slice_get_within}
use Rattle.rt_base.proofs.Options.{one_some}
use Rattle.rt_base.proofs.Lists.{All-at, Contains-none, Contains-cons_cases, Contains-map_source, found_to}
use Rattle.rt_lines.specs.declared.label.Label.{Label}
use Rattle.rt_lines.specs.declared.label.Label.TheVariants.{In}
use Rattle.rt_lines.specs.declared.label.Loc.TheVariants.{Arg}
use Rattle.rt_lines.specs.declared.line.Line.{Line}
use Rattle.rt_lines.specs.declared.line.Line.TheVariants.{Var}
use Rattle.rt_lines.specs.declared.line.Judge.TheVariants.{Var as JudgeVar}
use Rattle.rt_lines.specs.declared.variable.Base.TheVariants.{Proc as ProcBase}
use Rattle.rt_lines.specs.declared.variable.Dtv.{Dtv}
use Rattle.rt_lines.specs.Orders.{Below}
use Rattle.rt_rules.specs.Alike.{IsOutside, is_inside_for}
use Rattle.rt_rules.specs.Rules.{Derivable}
use Rattle.rt_rules.specs.Rules.Derivable.{named}
use Rattle.rt_link.specs.declared.place.Place.{Place}
use Rattle.rt_control.specs.declared.form.Form.{Form}
use Rattle.rt_control.specs.declared.form.Form.TheVariants as form
use Rattle.rt_control.specs.declared.form.Target.TheVariants as target
use Rattle.rt_control.specs.declared.form.Way.TheVariants as way
use Rattle.rt_components.specs.Groups.{IsAmongFirst, group_at}
use Rattle.rt_proc.specs.declared.proc.Proc.{Proc}
use Rattle.rt_proc.specs.declared.site.Callee.{Callee}
use Rattle.rt_proc.specs.declared.site.Callee.TheVariants as callee
use Rattle.rt_proc.specs.declared.site.Kind.{Kind}
use Rattle.rt_proc.specs.declared.site.Kind.TheVariants as kind
use Rattle.rt_proc.specs.declared.site.Site.{Site}
use Rattle.rt_proc.specs.Procs.{AreProcs, IsProc, IsSite, entries_of}
use Rattle.rt_proc.specs.Sites.{is_other, number_of, step_tails, tails_of}
use Rattle.rt_calls.specs.Calls.{AreGroupsOf, Calls, CallsAt, TailCallsAt}
use Rattle.rt_lattice.specs.declared.roles.Roles.{Roles}
use Rattle.rt_body.specs.Readings.{Reading}
use Rattle.rt_body.specs.Right.{IsReading}
use Rattle.rt_body.proofs.Uniqueness.{one_reading}
use Rattle.rt_liveness.specs.Programs.{IsProgram, Program, called_by, callees_of}
use Rattle.rt_liveness.specs.Takes.{Takes, Procedure}
use Rattle.rt_rows.specs.declared.name.Name.TheVariants as name
use Rattle.rt_rows.specs.declared.row.Row.{Row}
use Rattle.rt_rows.specs.Terms.{group_lines, row_names}
use Rattle.rt_scheme.specs.declared.scheme.Scheme as scheme
use Rattle.rt_scheme.specs.Ports.{NamesLabel, names_label}
use Rattle.rt_scheme.proofs.PortLabels.{any_names-is, names_label-is}
use Rattle.rt_table.specs.Facts.{AreKnown, Knowledge}
use Rattle.rt_table.specs.Lists.{AreLinesOf, AreRowsOf, is_member}
use Rattle.rt_solve.specs.Solved.{AreSolved, HasSchemeOf, IsGroupSolved}
use Rattle.rt_agreement.specs.Objects.{NameTaken}
use Rattle.rt_agreement.proofs.Calling.{inside}
use Rattle.rt_agreement.proofs.Letters.{IsLetteredRow, first-letter, lines-lettered}
use Rattle.rt_agreement.proofs.Members.{member-rows}
use Rattle.rt_agreement.proofs.Naming.{IsTakenLetter}
use Rattle.rt_agreement.proofs.Objects.{objects_taken}
use Rattle.rt_agreement.proofs.Told.{IsMember, NameTakenOf, calls-told-where, calls_told, member-of}

-- Sites.

-- no site goes on for good in what a register holds
module _ (entries : List Place) (own : Place) (r : ℕ) where
  step_no : (places : List Place) → Contains (step_tails entries own places) (callee.Unknown r) → ⊥
  step_no places c =
      let (place, there, e) = Contains-map_source (λ (place : Place). callee.Proc (number_of entries place)) (filter (is_other entries own) places) (callee.Unknown r) c in cc

  one_no : (c : Callee) → (c ≡ callee.Unknown r → ⊥) → Contains (c ∷ []) (callee.Unknown r) → ⊥
  one_no c other there = by (Contains-cons_cases c [] (callee.Unknown r) there)
    where
      by : (c ≡ callee.Unknown r) ⊎ Contains [] (callee.Unknown r) → ⊥
      by (inl e) = other e
      by (inr none) = Contains-none (callee.Unknown r) none

  tails_no : (f : Form) → Contains (tails_of entries own f) (callee.Unknown r) → ⊥
  tails_no (form.Plain insn (way.On after)) c = step_no (after ∷ []) c
  tails_no (form.Plain insn (way.Jump place)) c = step_no (place ∷ []) c
  tails_no (form.Plain insn (way.Branch place after)) c = step_no _ c
  tails_no (form.Plain insn (way.Leave symbol)) c = one_no (callee.Extern symbol) (λ e. cc) c
  tails_no (form.Plain insn (way.Table places)) c = step_no places c
  tails_no (form.Call called link after) c = Contains-none (callee.Unknown r) c
  tails_no (form.Tail (target.Code place)) c = one_no (callee.Proc (number_of entries place)) (λ e. cc) c
  tails_no (form.Tail (target.Outside symbol)) c = one_no (callee.Extern symbol) (λ e. cc) c
  tails_no form.Return c = Contains-none (callee.Unknown r) c
  tails_no form.Stop c = Contains-none (callee.Unknown r) c

module _ (program : Program) (ends : List ℕ) (are : AreProcs program.object ends program.procs) where
  no_tail : (q : ℕ) (proc : Proc) → slice_get program.procs q ≡ Some proc
      → (s r : ℕ) (site : Site) → slice_get proc.sites s ≡ Some site → Contains site.tails (callee.Unknown r) → ⊥
  no_tail q proc is_proc s r site at c =
      let entries = entries_of program.procs in
      let of : IsProc program.object ends entries proc = All-at (IsProc program.object ends entries) program.procs q proc are.each is_proc in
      let is : IsSite program.object ends entries proc.entry site = All-at (IsSite program.object ends entries proc.entry) proc.sites s site of.sites at in
      tails_no entries proc.entry r is.form (subst (λ (o : Site). Contains o.tails (callee.Unknown r)) is.is_site c)

-- a callee of a site is called by it, or is one in which it goes on for good
module _ (site : Site) (q : ℕ) where
  called_at : (k : Kind) → site.kind ≡ k → Contains (called_by k) (callee.Proc q) → CallsAt site q
  called_at (kind.Call c link) e h = by (Contains-cons_cases c [] (callee.Proc q) h)
    where
      by : (c ≡ callee.Proc q) ⊎ Contains [] (callee.Proc q) → CallsAt site q
      by (inl same) = (link, e ∙ ap (λ d. kind.Call d link) same)
      by (inr none) = absurd (Contains-none (callee.Proc q) none)
  called_at (kind.Plain insn) e h = absurd (Contains-none (callee.Proc q) h)
  called_at kind.Return e h = absurd (Contains-none (callee.Proc q) h)
  called_at kind.Stop e h = absurd (Contains-none (callee.Proc q) h)

  leads_to : Contains (callees_of site) (callee.Proc q) → CallsAt site q ⊎ TailCallsAt site q
  leads_to h = by (Contains-append_cases (called_by site.kind) site.tails (callee.Proc q) h)
    where
      by : Contains (called_by site.kind) (callee.Proc q) ⊎ Contains site.tails (callee.Proc q) → CallsAt site q ⊎ TailCallsAt site q
      by (inl g) = inl (called_at site.kind refl g)
      by (inr g) = inr g

slice_contains : {X : Type 0} (xs : List X) (k : ℕ) (x : X) → slice_get xs k ≡ Some x → Contains xs x
slice_contains xs k x e = (k, slice_get_within xs k x e, get_or_from_slice_get xs k x x e)

-- Members of groups.

-- what is known of the registers of a program's procedures is one
module _ (program : Program) (others : List Reading) where
  abbrev other : Program
  other = record { object = program.object; procs = program.procs; readings = others; signatures = program.signatures }

  one_readings : IsProgram program → IsProgram other → program.readings ≡ others
  one_readings a b = same_lists program.readings others (a.one_each ∙ sym b.one_each) (λ q reading less.
      let within : q < length program.procs = omega (arith, less, a.one_each) in
      let (proc, at) = inside program.procs q within in
      one_reading program.object (get_or program.procs q proc) (get_or program.readings q reading) (get_or others q reading)
      (a.readings q proc reading within) (b.readings q proc reading within))

-- the scheme of a procedure names only argument registers that it takes
abbrev pub IsTakenBy : Program → List (Option scheme.Scheme) → ℕ → Type 0
IsTakenBy program schemes q =
    (n : ℕ) (given : scheme.Scheme) → slice_index_or schemes q None ≡ Some given → names_label given.base given.lines (In (Arg n)) ≡ true
    → Takes program (Procedure q) (10 + n)

module _ (program : Program) (ends : List ℕ) (are : AreProcs program.object ends program.procs) (known : List Knowledge) (are_known : AreKnown program known)
    (roles : Roles) (schemes : List (Option scheme.Scheme)) (group : List ℕ)
    (few : length schemes ≡ length program.procs) where
  -- the schemes of those outside the group for whom a procedure calls do
  abbrev AreBefore : ℕ → Type 0
  AreBefore number = (p : ℕ) → Calls program.procs number p → (Contains group p → ⊥) → IsTakenBy program schemes p

  no_member : (p : ℕ) → is_member group p ≡ false → Contains group p → ⊥
  no_member p e c = true≢false (sym (found_to group p c) ∙ e)

  rows_lettered : (number : ℕ) → AreBefore number → (rows : List Row) → AreRowsOf program known roles schemes group number rows
      → (r : Row) → Contains rows r → IsLetteredRow (IsTakenLetter program) r
  rows_lettered number before rows told r there =
      let member : IsMember program schemes group known number told.context = member-of program known roles schemes group number told.context are_known told.is_context in
      let less : number < length program.procs = slice_get_within program.procs number member.proc member.is_proc in
      let reading : IsReading program.object (get_or program.procs number member.proc) (get_or program.readings number member.knowledge.reading) =
      are_known.is_program.readings number member.proc member.knowledge.reading less in
      let of_proc : IsReading program.object member.proc (get_or program.readings number member.knowledge.reading) =
      subst (λ (p : Proc). IsReading program.object p (get_or program.readings number member.knowledge.reading))
      (get_or_from_slice_get program.procs number member.proc member.proc member.is_proc) reading in
      let is_reading : IsReading program.object member.proc member.knowledge.reading =
      subst (IsReading program.object member.proc)
      (get_or_from_slice_get program.readings number member.knowledge.reading member.knowledge.reading member.is_known.reading) of_proc in
      let called : ℕ → Type 0 = λ p. (site : Site) × Contains member.proc.sites site × Contains (callees_of site) (callee.Proc p) in
      let named : NameTakenOf called program schemes group =
      λ p n given (site, stands, has) apart found names small.
      let within : p < length program.procs = by_number p given found in
      before p (within, (member.proc, member.is_proc, (site, stands, leads_to site p has))) (no_member p apart) n given found names in
      let tells = calls-told-where called program known schemes group number told.context member named
      (λ site call p is_call e. (
        is_call.site,
        slice_contains member.proc.sites site is_call.site is_call.is_site,
        subst (Contains (callees_of is_call.site)) e is_call.among,
      )) in
      member-rows program known schemes group number told.context member told.is_context.procedure is_reading
      (no_tail program ends are number member.proc member.is_proc) tells.1 rows told.are_rows r there
    where
      by_number : (p : ℕ) (given : scheme.Scheme) → slice_index_or schemes p None ≡ Some given → p < length program.procs
      by_number p given found = by (cases_lt p (length program.procs))
        where
          by : (p < length program.procs) ⊎ (length program.procs ≤ p) → p < length program.procs
          by (inl less) = less
          by (inr past) = let none : None ≡ Some given = sym (get_or_past schemes p None (omega (arith, past, few))) ∙ found in cc

  module _ (object_lines : List (List Line)) (rows : List (List Row)) (one_each : length rows ≡ length group)
      (are_rows : (i : ℕ) → i < length group → AreRowsOf program known roles schemes group (get_or group i 0) (get_or rows i []))
      (lines : object_lines ≡ group_lines rows) (before : (q : ℕ) → Contains group q → AreBefore q) where
    each_lettered : (here : List Row) (r : Row) → Contains rows here → Contains here r → IsLetteredRow (IsTakenLetter program) r
    each_lettered here r (i, less, e) there =
        let within : i < length group = omega (arith, less, one_each) in
        let is : get_or rows i [] ≡ here = get_or_default rows i [] here less ∙ e in
        rows_lettered (get_or group i 0) (before (get_or group i 0) (Contains-get_or group i 0 within)) (get_or rows i []) (are_rows i within) r
        (subst (λ (rs : List Row). Contains rs r) (sym is) there)

    -- the letter directly after a procedure in what the lists derive is one that it takes
    derived_taken : (order : Below) (x : Dtv) (q n : ℕ) (w : List Label)
        → Derivable order (flat_map (λ (ls : List Line). ls) object_lines) (Var x) → x.base ≡ ProcBase q → x.word ≡ In (Arg n) ∷ w
        → Takes program (Procedure q) (10 + n)
    derived_taken order x q n w d b e =
        first-letter (IsTakenLetter program) order (flat_map (λ (ls : List Line). ls) (group_lines rows))
        (lines-lettered (IsTakenLetter program) rows each_lettered) x q (In (Arg n)) w
        (subst (λ (lists : List (List Line)). Derivable order (flat_map (λ (ls : List Line). ls) lists) (Var x)) lines d) b e

-- a scheme names a label where a variable that it derives does
named_there : (own : ℕ) (lines : List Line) (l : Label) → names_label own lines l ≡ true → NamesLabel own lines l
named_there own lines l e = (any_names-is own l lines).0 (names_label-is own lines l ∙ e)

own_outside : (q : ℕ) (x : Dtv) → x.base ≡ ProcBase q → IsOutside (is_inside_for q) (Var x)
own_outside q x e z same =
    subst (λ (y : Dtv). is_inside_for q y.base ≡ false) same
    (ap (is_inside_for q) e ∙ ap not (eq-eqb q q refl))

-- what a scheme derives of its own procedure, the lines derive of which it is chosen
scheme_derived : (order : Below) (schemes : List (Option scheme.Scheme)) (lines : List Line) (q : ℕ) → HasSchemeOf order schemes lines q
    → (given : scheme.Scheme) → slice_index_or schemes q None ≡ Some given → (l : Label) → names_label given.base given.lines l ≡ true
    → (x : Dtv) × (w : List Label) × Derivable order lines (Var x) × (x.base ≡ ProcBase q) × (x.word ≡ l ∷ w)
scheme_derived order schemes lines q has given found l names =
    let same : given ≡ has.scheme = one_some (slice_index_or schemes q None) given has.scheme found has.is_scheme in
    let (k, x, w, c, h, b, e) = named_there given.base given.lines l names in
    let own : x.base ≡ ProcBase q = b ∙ ap ProcBase (ap (λ (s : scheme.Scheme). s.base) same ∙ has.own) in
    let derived : Derivable order has.scheme.lines (Var x) = subst (λ (s : scheme.Scheme). Derivable order s.lines (Var x)) same (named k c h) in
    let there : Derivable order (lines ++ []) (Var x) =
    has.alike.1 [] (JudgeVar x) (All-nil (IsOutside (is_inside_for q))) (own_outside q x own)
    (subst (λ (ls : List Line). Derivable order ls (Var x)) (sym (append-nil has.scheme.lines)) derived) in
    (x, w, subst (λ (ls : List Line). Derivable order ls (Var x)) (append-nil lines) there, own, e)

-- Groups.

module _ (program : Program) (ends : List ℕ) (roles : Roles) (order : Below) (groups : List (List ℕ)) (schemes : List (Option scheme.Scheme))
    (is_program : IsProgram program) (are : AreProcs program.object ends program.procs) (grouped : AreGroupsOf program.procs groups)
    (solved : AreSolved program.object roles order program.procs program.signatures groups schemes) where
  -- members of a group do where those of the groups before it do
  module _ (k : ℕ) (less : k < length groups) (to : (i q : ℕ) → i < k → Contains (group_at groups i) q → IsTakenBy program schemes q) where
    before : (q : ℕ) → Contains (group_at groups k) q → (p : ℕ) → Calls program.procs q p → (Contains (group_at groups k) p → ⊥) → IsTakenBy program schemes p
    before q member p calls apart = by (grouped.may k less q p member calls)
      where
        by : Contains (group_at groups k) p ⊎ IsAmongFirst groups k p → IsTakenBy program schemes p
        by (inl c) = absurd (apart c)
        by (inr (i, first, c)) = to i p first c

    group_solved : IsGroupSolved program.object roles order program.procs program.signatures schemes (group_at groups k)
    group_solved = solved.each (group_at groups k) (Contains-get_or groups k [] less)

    lists : AreLinesOf program.object roles program.procs program.signatures schemes (group_at groups k) group_solved.bodies
    lists = group_solved.are_lines

    readings_same : program.readings ≡ lists.readings
    readings_same = one_readings program lists.readings is_program lists.are_known.is_program

    abbrev with_readings : List Reading → Program
    with_readings readings = record { object = program.object; procs = program.procs; readings = readings; signatures = program.signatures }

    are_known : AreKnown program lists.known
    are_known = subst (λ (rs : List Reading). AreKnown (with_readings rs) lists.known) (sym readings_same) lists.are_known

    are_rows : (i : ℕ) → i < length (group_at groups k)
        → AreRowsOf program lists.known roles schemes (group_at groups k) (get_or (group_at groups k) i 0) (get_or lists.rows i [])
    are_rows i within =
        subst (λ (rs : List Reading). AreRowsOf (with_readings rs) lists.known roles schemes (group_at groups k) (get_or (group_at groups k) i 0) (get_or lists.rows i []))
        (sym readings_same) (lists.are_rows i within)

    member_taken : (q : ℕ) → Contains (group_at groups k) q → IsTakenBy program schemes q
    member_taken q (i, within, e) n given found names =
        let is : get_or (group_at groups k) i 0 ≡ q = get_or_default (group_at groups k) i 0 q within ∙ e in
        let has : HasSchemeOf order schemes (flat_map (λ (ls : List Line). ls) group_solved.bodies) q =
        subst (HasSchemeOf order schemes (flat_map (λ (ls : List Line). ls) group_solved.bodies)) is (group_solved.solved i within) in
        let (x, w, d, own, at) = scheme_derived order schemes (flat_map (λ (ls : List Line). ls) group_solved.bodies) q has given found (In (Arg n)) names in
        derived_taken program ends are lists.known are_known roles schemes (group_at groups k) solved.one_each group_solved.bodies lists.rows lists.one_each
        are_rows lists.lines before order x q n w d own at

  taken_more : (k : ℕ) → k < length groups → ((i q : ℕ) → i < k → Contains (group_at groups i) q → IsTakenBy program schemes q)
      → (i q : ℕ) → i < suc k → Contains (group_at groups i) q → IsTakenBy program schemes q
  taken_more k within to i q less c = by (cases_eq i k)
    where
      by : (i ≡ k) ⊎ (i ≡ k → ⊥) → IsTakenBy program schemes q
      by (inl e) = member_taken k within to q (subst (λ n. Contains (group_at groups n) q) e c)
      by (inr apart) = to i q (omega (arith, less, apart)) c

  taken_to : (k : ℕ) → k ≤ length groups → (i q : ℕ) → i < k → Contains (group_at groups i) q → IsTakenBy program schemes q
  taken_to zero le i q less c = absurd (omega (arith, less))
  taken_to (suc k) le i q less c = taken_more k (omega (arith, le)) (λ j r first d. taken_to k (omega (arith, le)) j r first d) i q less c

  taken_all : (q : ℕ) → IsTakenBy program schemes q
  taken_all q n given found names = by (cases_lt q (length program.procs))
    where
      among : IsAmongFirst groups (length groups) q → Takes program (Procedure q) (10 + n)
      among (i, less, c) = taken_to (length groups) (omega arith) i q less c n given found names

      by : (q < length program.procs) ⊎ (length program.procs ≤ q) → Takes program (Procedure q) (10 + n)
      by (inl less) = among ((grouped.nodes q).0 less)
      by (inr past) = let none : None ≡ Some given = sym (get_or_past schemes q None (omega (arith, past, solved.one_each))) ∙ found in cc

pub chosen_taken : (program : Program) (ends : List ℕ) (roles : Roles) (order : Below) (groups : List (List ℕ)) (schemes : List (Option scheme.Scheme))
    (group : List ℕ) → IsProgram program → AreProcs program.object ends program.procs → AreGroupsOf program.procs groups
    → AreSolved program.object roles order program.procs program.signatures groups schemes → NameTaken program schemes group
chosen_taken program ends roles order groups schemes group is_program are grouped solved q n given apart found names small =
    taken_all program ends roles order groups schemes is_program are grouped solved q n given found names

pub chosen_objects : (program : Program) (ends : List ℕ) (roles : Roles) (order : Below) (groups : List (List ℕ)) (schemes : List (Option scheme.Scheme))
    (known : List Knowledge) (group : List ℕ) (number : ℕ) (rows : List Row) (r : Row) (procedure : ℕ) (start : ℤ)
    → AreKnown program known → AreProcs program.object ends program.procs → AreGroupsOf program.procs groups
    → AreSolved program.object roles order program.procs program.signatures groups schemes
    → (are_rows : AreRowsOf program known roles schemes group number rows)
    → Contains rows r → Contains (row_names r) (name.Object procedure start)
    → (procedure ≡ number) × Contains are_rows.context.frame.layout.taken start
chosen_objects program ends roles order groups schemes known group number rows r procedure start are_known are grouped solved told there names =
    let named : NameTaken program schemes group = chosen_taken program ends roles order groups schemes group are_known.is_program are grouped solved in
    let tells = calls_told program known roles schemes group number told.context are_known named told.is_context in
    let found = objects_taken told.context rows r procedure start tells.0 tells.1 told.are_rows there names in
    (found.0 ∙ told.is_context.procedure, found.1)
