-- The rows of a procedure of which something true is known.
use Rattle.std.proofs.Common.{◌≡◌, ◌<◌, ◌≤◌, ◌+◌, ◌⊎◌, inl, inr, ℕ, zero, suc, Bool, true, false, cond, ◌&&◌, nat_eq, Option, Some, None, List, [], ◌∷◌, ◌++◌, length, map, get_or, refl, sym, ap, subst, ◌∙◌, arith}
use Rattle.std.specs.Prelude.{All, Contains, IsTrue, slice_get, slice_index_or}
use lib.Pointwise.{pointwise}
use Rattle.std.proofs.lemmas.Bool.{false≢true}
use Rattle.std.proofs.lemmas.List.{get_or_default}
use Rattle.std.proofs.lemmas.List.Elements.{All-head, All-tail, Contains-get_or}
use Rattle.rt_lines.specs.declared.variable.Base.{Base}
use Rattle.rt_lines.specs.declared.variable.Base.TheVariants as base
use Rattle.rt_lines.specs.declared.variable.Dtv.{Dtv}
use Rattle.rt_lines.specs.declared.line.Line.{Line}
use Rattle.rt_lines.specs.declared.line.Line.TheVariants as line
use Rattle.rt_lines.specs.Lines.{HasConstantsBelow}
use Rattle.rt_rules.specs.Rules.{HasSide}
use Rattle.rt_texts.specs.Goods.{IsLine}
use Rattle.rt_lattice.specs.declared.role.Role.{Role}
use Rattle.rt_lattice.specs.declared.roles.Roles.{Roles}
use Rattle.rt_lattice.specs.Roles.{role_in}
use Rattle.rt_elf.specs.Parts.{Parts as Object}
use Rattle.rt_elf.specs.Object.{IsLinkable}
use Rattle.rt_link.specs.Laws.{IsLawOfSymbols}
use Rattle.rt_proc.specs.declared.proc.Proc.{Proc}
use Rattle.rt_proc.specs.declared.site.Callee.{Callee}
use Rattle.rt_proc.specs.declared.site.Callee.TheVariants as callee
use Rattle.rt_body.specs.Readings.{Reading}
use Rattle.rt_body.specs.Registers.{HasRegisters}
use Rattle.rt_body.specs.Right.{IsReading}
use Rattle.rt_liveness.specs.declared.call.Call.{Call}
use Rattle.rt_liveness.specs.Calls.{HasCallRegister, HasCalleeRegister}
use Rattle.rt_liveness.specs.Programs.{Program, args_at, signature_at}
use Rattle.rt_scheme.specs.declared.scheme.Scheme as scheme
use Rattle.rt_scheme.specs.Schemes.{is_scheme_line}
use Rattle.rt_sigs.specs.Signatures.{AreSignatures, IsSignature, IsSignatureLine, Signature, is_no_global, names_no_global, signature_of}
use Rattle.rt_rows.specs.declared.row.Root.{Root}
use Rattle.rt_rows.specs.declared.row.Root.TheVariants as root
use Rattle.rt_rows.specs.declared.row.Row.{Row}
use Rattle.rt_rows.specs.declared.row.Row.TheVariants as row
use Rattle.rt_rows.specs.declared.row.Term.{Term}
use Rattle.rt_rows.specs.Terms.{HasConstantBelow, HasRoot, IsGroupRow, NamesRoot}
use Rattle.rt_table.specs.Facts.{AreKnown, Knowledge}
use Rattle.rt_table.specs.Lists.{AreGiven, AreRowsOf, IsContext, IsGiven, is_member, linked_by, linked_in, scheme_target, target_by, words_at}
use Rattle.rt_table.specs.Inside.Naming.{AreRowsGiven}
use Rattle.rt_table.specs.Table.{AreProcedureRows, Context, Linked, Target, Member, Scheme, Held, Unknown, linked_at, target_at}
use Rattle.rt_table.proofs.Globals.{reading-addresses, reading-defs, reading-uses}
use Rattle.rt_table.proofs.Instancing.{IsGoodBase, IsGoodLine, IsGoodTarget, procedure-good}
use Rattle.rt_table.proofs.Looking.{get-within}
use Rattle.rt_table.proofs.Sound.{HasHeldRegister, IsGood, IsRootIn, IsSound, any-sound}
use Rattle.std.proofs.lemmas.Option.{get_or_from_slice_get}

-- any number, and one below a count
abbrev Any : ℕ → Type 0
Any n = Unit {0}

abbrev Below : ℕ → ℕ → Type 0
Below count n = n < count

-- a procedure, for where there is one at hand
pub no_proc : Proc
no_proc = record { entry = record { section = 0; offset = 0 }; name = []; sites = [] }

-- Targets.

-- what holds of how each call is told, and where nothing is known, holds of how those of sites are told
module _ (P : Target → Type 0) (unknown : P Unknown) (link : Call → Linked) where
  target_in_calls : (here : List Call) → All (λ call. P (link call).target) here → (i : ℕ) → P (target_at (map link here) i)
  target_in_calls [] h i = unknown
  target_in_calls (call ∷ here) h zero = All-head (λ c. P (link c).target) call here h
  target_in_calls (call ∷ here) h (suc i) = target_in_calls here (All-tail (λ c. P (link c).target) call here h) i

  pub targets-of : (calls : List (List Call)) → All (All (λ call. P (link call).target)) calls → (site i : ℕ)
      → P (target_at (slice_index_or (map (λ (here : List Call). map link here) calls) site []) i)
  targets-of [] h site i = unknown
  targets-of (here ∷ calls) h zero i = target_in_calls here (All-head (All (λ call. P (link call).target)) here calls h) i
  targets-of (here ∷ calls) h (suc site) i = targets-of calls (All-tail (All (λ call. P (link call).target)) here calls h) site i

scheme_held : (covered : Option ℕ) (o : Option scheme.Scheme) → HasHeldRegister (scheme_target covered o)
scheme_held covered None = tt
scheme_held covered (Some s) = tt

module _ (program : Program) (known : List Knowledge) (schemes : List (Option scheme.Scheme)) (group : List ℕ) where
  target_held : (c : Callee) (b : Bool) → HasCalleeRegister c → HasHeldRegister (target_by program known schemes group c b)
  target_held (callee.Proc q) b h =
      elim (is_member group q) as (λ m. HasHeldRegister (cond m (Member q (words_at known q)) (scheme_target None (slice_index_or schemes q None))))
      [ true ↦ tt | false ↦ scheme_held None (slice_index_or schemes q None) ]
  target_held (callee.Extern symbol) b h = scheme_held (args_at program symbol) (signature_at program symbol)
  target_held (callee.Unknown register) true h = h
  target_held (callee.Unknown register) false h = tt

  -- the registers that hold whom a procedure calls
  pub targets-held : (calls : List (List Call)) → All (All HasCallRegister) calls → (site i : ℕ)
      → HasHeldRegister (target_at (slice_index_or (linked_in program known schemes group calls) site []) i)
  targets-held calls h =
      targets-of HasHeldRegister tt (linked_by program known schemes group) calls
      (λ k d less j e under. held_by (get_or (get_or calls k d) j e) (h k d less j e under))
    where
      held_by : (call : Call) → HasCallRegister call → HasHeldRegister (target_by program known schemes group call.callee call.is_plain)
      held_by call h = target_held call.callee call.is_plain h

  module _ (G : ℕ → Type 0) (C : ℕ → Type 0) (given : (q : ℕ) (s : scheme.Scheme) → slice_index_or schemes q None ≡ Some s → All (IsGoodLine G C) s.lines)
      (signed : (symbol : ℕ) (s : scheme.Scheme) → signature_at program symbol ≡ Some s → All (IsGoodLine G C) s.lines) where
    scheme_good : (covered : Option ℕ) (o : Option scheme.Scheme) → ((s : scheme.Scheme) → o ≡ Some s → All (IsGoodLine G C) s.lines)
        → IsGoodTarget G C (scheme_target covered o)
    scheme_good covered None h = tt
    scheme_good covered (Some s) h = (s.bases, h s refl)

    target_good : (c : Callee) (b : Bool) → IsGoodTarget G C (target_by program known schemes group c b)
    target_good (callee.Proc q) b =
        elim (is_member group q) as (λ m. IsGoodTarget G C (cond m (Member q (words_at known q)) (scheme_target None (slice_index_or schemes q None))))
        [ true ↦ tt | false ↦ scheme_good None (slice_index_or schemes q None) (given q) ]
    target_good (callee.Extern symbol) b = scheme_good (args_at program symbol) (signature_at program symbol) (signed symbol)
    target_good (callee.Unknown register) true = tt
    target_good (callee.Unknown register) false = tt

    pub targets-good : (calls : List (List Call)) (site i : ℕ) → IsGoodTarget G C (target_at (slice_index_or (linked_in program known schemes group calls) site []) i)
    targets-good calls =
        targets-of (IsGoodTarget G C) tt (linked_by program known schemes group) calls
        (λ k d less j e under. let call = get_or (get_or calls k d) j e in target_good call.callee call.is_plain)

-- Lines of schemes.

any_base : (b : Base) → IsGoodBase Any b
any_base (base.Proc n) = tt
any_base (base.Global n) = tt
any_base (base.Exist n) = tt
any_base (base.Outer n) = tt

any_line : (l : Line) → IsGoodLine Any Any l
any_line (line.Var x) = any_base x.base
any_line (line.Same x y) = (any_base x.base, any_base y.base)
any_line (line.Sub x y) = (any_base x.base, any_base y.base)
any_line (line.Low k x) = (tt, any_base x.base)
any_line (line.Up x k) = (any_base x.base, tt)

module _ (n count : ℕ) where
  abbrev IsBelow : Line → Type 0
  IsBelow l = IsGoodLine (Below n) (Below count) l

  base_below : (b : Base) → ((g : ℕ) → b ≡ base.Global g → g < n) → IsGoodBase (Below n) b
  base_below (base.Global g) h = h g refl
  base_below (base.Proc p) h = tt
  base_below (base.Exist k) h = tt
  base_below (base.Outer k) h = tt

  line_below : (l : Line) → HasConstantsBelow count l → ((x : Dtv) (g : ℕ) → HasSide l x → x.base ≡ base.Global g → g < n) → IsBelow l
  line_below (line.Var x) c h = base_below x.base (λ g e. h x g refl e)
  line_below (line.Same x y) c h = (base_below x.base (λ g e. h x g (inl refl) e), base_below y.base (λ g e. h y g (inr refl) e))
  line_below (line.Sub x y) c h = (base_below x.base (λ g e. h x g (inl refl) e), base_below y.base (λ g e. h y g (inr refl) e))
  line_below (line.Low k x) c h = (c, base_below x.base (λ g e. h x g refl e))
  line_below (line.Up x k) c h = (base_below x.base (λ g e. h x g refl e), c)

  -- a line that names no global
  none_base : (b : Base) → IsTrue (is_no_global b) → IsGoodBase (Below n) b
  none_base (base.Global g) h = absurd (false≢true h)
  none_base (base.Proc p) h = tt
  none_base (base.Exist k) h = tt
  none_base (base.Outer k) h = tt

  both_of : (b c : Bool) → IsTrue (b && c) → IsTrue b × IsTrue c
  both_of true c h = (refl, h)
  both_of false c h = absurd (false≢true h)

  none_line : (l : Line) → IsLine count l → IsTrue (names_no_global l) → IsBelow l
  none_line (line.Var x) c h = none_base x.base h
  none_line (line.Same x y) c h = let p = both_of (is_no_global x.base) (is_no_global y.base) h in (none_base x.base p.0, none_base y.base p.1)
  none_line (line.Sub x y) c h = let p = both_of (is_no_global x.base) (is_no_global y.base) h in (none_base x.base p.0, none_base y.base p.1)
  none_line (line.Low k x) c h = (c.0, none_base x.base h)
  none_line (line.Up x k) c h = (none_base x.base h, c.1)

  signature_below : (l : Line) → IsSignatureLine count l → IsBelow l
  signature_below l h = none_line l h.0 (both_of (is_scheme_line 0 l) (names_no_global l) h.1).1

-- the lines of a scheme that is given
given_lines : (object : Object) (count : ℕ) (s : scheme.Scheme) → IsGiven object count s → All (IsBelow (length object.symbols) count) s.lines
given_lines object count s h k d less =
    let l = get_or s.lines k d in
    line_below (length object.symbols) count l (h.constants k d less) (λ x g side e. h.globals g (l, x, Contains-get_or s.lines k d less, side, e))

-- the scheme of a signature that is found is that of one of them
signed_of : (P : scheme.Scheme → Type 0) (signatures : List Signature) (name : List ℕ) (s : scheme.Scheme) → All (λ (signature : Signature). P signature.1.scheme) signatures
    → signature_of signatures name ≡ Some s → P s
signed_of P [] name s h e = cc
signed_of P ((other, t) ∷ signatures) name s h e =
    elim (pointwise nat_eq other name) as (λ b. cond b (Some t.scheme) (signature_of signatures name) ≡ Some s → P s) [
      | true ↦ λ (same : Some t.scheme ≡ Some s). (let is : t.scheme ≡ s = cc in subst P is (All-head (λ (signature : Signature). P signature.1.scheme) (other, t) signatures h))
      | false ↦ λ (later : signature_of signatures name ≡ Some s).
          signed_of P signatures name s (All-tail (λ (signature : Signature). P signature.1.scheme) (other, t) signatures h) later
    ]
    e

signed_lines : (n count : ℕ) (signatures : List Signature) (name : List ℕ) (s : scheme.Scheme) → AreSignatures count signatures → signature_of signatures name ≡ Some s
    → All (IsBelow n count) s.lines
signed_lines n count signatures name s are e k d less =
    let good = signed_of (λ (t : scheme.Scheme). All (IsSignatureLine count) t.lines) signatures name s (λ i x within. (are.each i x within).good) e in
    signature_below n count (get_or s.lines k d) (good k d less)

-- Rows.

row_group : (context : Context) (G C : ℕ → Type 0) (r : Row) → IsGood context G C r → IsGroupRow r
row_group context G C (row.Var x) h = h.1
row_group context G C (row.Same x y) h = (h.0.1, h.1.1)
row_group context G C (row.Sub x y) h = (h.0.1, h.1.1)
row_group context G C (row.Low k x) h = h.1.1
row_group context G C (row.Up x k) h = h.0.1

row_constant : (context : Context) (G : ℕ → Type 0) (count : ℕ) (r : Row) → IsGood context G (Below count) r → HasConstantBelow count r
row_constant context G count (row.Var x) h = tt
row_constant context G count (row.Same x y) h = tt
row_constant context G count (row.Sub x y) h = tt
row_constant context G count (row.Low k x) h = h.0
row_constant context G count (row.Up x k) h = h.1

row_root : (context : Context) (G C : ℕ → Type 0) (r : Row) (x : Root) → IsGood context G C r → HasRoot r x → IsRootIn context G x
row_root context G C (row.Var y) x h e = subst (IsRootIn context G) e h.0
row_root context G C (row.Same y z) x h (inl e) = subst (IsRootIn context G) e h.0.0
row_root context G C (row.Same y z) x h (inr e) = subst (IsRootIn context G) e h.1.0
row_root context G C (row.Sub y z) x h (inl e) = subst (IsRootIn context G) e h.0.0
row_root context G C (row.Sub y z) x h (inr e) = subst (IsRootIn context G) e h.1.0
row_root context G C (row.Low k y) x h e = subst (IsRootIn context G) e h.1.0
row_root context G C (row.Up y k) x h e = subst (IsRootIn context G) e h.0.0

-- The rows of a procedure with these calls at its sites.
module _ (program : Program) (known : List Knowledge) (schemes : List (Option scheme.Scheme)) (group : List ℕ) (context : Context) (calls : List (List Call))
    (linked : context.linked ≡ linked_in program known schemes group calls) (call_registers : All (All HasCallRegister) calls)
    (registers : All HasRegisters context.reading.actions) (rows : List Row) (are_rows : AreProcedureRows context rows) where
  held : (site i : ℕ) → HasHeldRegister (target_at (linked_at context site) i)
  held site i =
      subst (λ ls. HasHeldRegister (target_at (slice_index_or ls site []) i)) (sym linked) (targets-held program known schemes group calls call_registers site i)

  -- they have the form of a group's lines
  pub rows-group : All IsGroupRow rows
  rows-group k d less =
      let targets : (site i : ℕ) → IsGoodTarget Any Any (target_at (linked_at context site) i) =
      λ site i. subst (λ ls. IsGoodTarget Any Any (target_at (slice_index_or ls site []) i)) (sym linked)
      (targets-good program known schemes group Any Any (λ q s e j x l. any_line (get_or s.lines j x)) (λ symbol s e j x l. any_line (get_or s.lines j x)) calls site i)
      in
      row_group context Any Any (get_or rows k d) (procedure-good context Any Any (any-sound context registers held) targets rows are_rows k d less)

  module _ (roles : Roles) (number : ℕ) (is : IsContext program known roles schemes group number context) (are : AreKnown program known) where
    reading_is : IsReading program.object (get_or program.procs number no_proc) context.reading
    reading_is =
        let within : number < length known = get-within known number is.knowledge is.is_known in
        let at : get_or known number is.knowledge ≡ is.knowledge = get_or_from_slice_get known number is.knowledge is.knowledge is.is_known in
        let here = are.each number no_proc is.knowledge within in
        let reading : get_or program.readings number context.reading ≡ context.reading =
        get_or_from_slice_get program.readings number (get_or known number is.knowledge).reading context.reading here.reading
        ∙ ap (λ (k : Knowledge). k.reading) at ∙ sym is.reading
        in
        subst (IsReading program.object (get_or program.procs number no_proc)) reading
        (are.is_program.readings number no_proc context.reading (omega (arith, are.one_each)))

    -- where the schemes are given, they name constants below the count and symbols
    pub rows-given : (count : ℕ) → IsLinkable program.object → IsLawOfSymbols → ((role : Role) → role_in roles role < count) → AreSignatures count program.signatures
        → AreGiven program.object count schemes → AreRowsGiven program.object count rows
    rows-given count linkable law constants signatures given = record {
      constants = λ k d less. row_constant context (Below (length program.object.symbols)) count (get_or rows k d) (good k d less);
      globals = λ g (r, c, h). row_root context (Below (length program.object.symbols)) (Below count) r (root.Global g) (contained r c) h;
    }
      where
        sound : IsSound context (Below (length program.object.symbols)) (Below count)
        sound = record {
          constants = λ role. subst (λ k. k < count) (sym (is.constant role)) (constants role);
          registers = registers;
          addresses = reading-addresses program.object (get_or program.procs number no_proc) context.reading reading_is linkable law;
          uses = reading-uses program.object (get_or program.procs number no_proc) context.reading reading_is linkable law;
          defs = reading-defs program.object (get_or program.procs number no_proc) context.reading reading_is linkable law;
          held = held;
        }

        targets : (site i : ℕ) → IsGoodTarget (Below (length program.object.symbols)) (Below count) (target_at (linked_at context site) i)
        targets site i =
            subst (λ ls. IsGoodTarget (Below (length program.object.symbols)) (Below count) (target_at (slice_index_or ls site []) i)) (sym linked)
            (targets-good program known schemes group (Below (length program.object.symbols)) (Below count) (λ q s e. given_lines program.object count s (given q s e))
            (λ symbol s e. signed_lines (length program.object.symbols) count program.signatures _ s signatures e) calls site i)

        good : All (IsGood context (Below (length program.object.symbols)) (Below count)) rows
        good = procedure-good context (Below (length program.object.symbols)) (Below count) sound targets rows are_rows

        contained : (r : Row) → Contains rows r → IsGood context (Below (length program.object.symbols)) (Below count) r
        contained r (i, less, at) = subst (IsGood context (Below (length program.object.symbols)) (Below count)) at (good i r less)
