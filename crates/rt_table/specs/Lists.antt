-- The lists of lines of procedures.
use Rattle.std.specs.Prelude.{◌≡◌, ℕ, zero, suc, ◌<◌, ◌≤◌, nat_eq, Bool, if◌then◌else◌, Option, Some, None}
use Rattle.std.specs.Prelude.{All, List, [], ◌∷◌, map, get_or, length, slice_get, slice_index_or}
use Rattle.std.specs.List.{list_any}
use Rattle.rt_lines.specs.declared.line.Line.{Line}
use Rattle.rt_lines.specs.declared.variable.Base.TheVariants.{Global}
use Rattle.rt_lines.specs.Lines.{HasConstantsBelow}
use Rattle.rt_rules.specs.Laws.{NamesBase}
use Rattle.rt_lattice.specs.declared.role.Role.{Role}
use Rattle.rt_lattice.specs.declared.roles.Roles.{Roles}
use Rattle.rt_lattice.specs.Roles.{role_in}
use Rattle.rt_elf.specs.Parts.{Parts as Object}
use Rattle.rt_proc.specs.declared.proc.Proc as procedure
use Rattle.rt_proc.specs.declared.site.Callee.{Callee}
use Rattle.rt_proc.specs.declared.site.Callee.TheVariants as callee
use Rattle.rt_body.specs.Readings.{Reading}
use Rattle.rt_body.specs.Symbols.{is_code_symbol}
use Rattle.rt_liveness.specs.declared.call.Call.{Call}
use Rattle.rt_liveness.specs.Programs.{Program, args_at, signature_at}
use Rattle.rt_scheme.specs.declared.scheme.Scheme as scheme
use Rattle.rt_sigs.specs.Signatures.{Signature}
use Rattle.rt_rows.specs.declared.row.Row.{Row}
use Rattle.rt_rows.specs.Terms.{group_lines}
use Rattle.rt_table.specs.Table.{Target, Member, Scheme, Held, Unknown, Linked, Context, AreProcedureRows}
use Rattle.rt_table.specs.Facts.{Knowledge, AreKnown}

-- the words of the stack that the procedure of a number takes
abbrev pub words_at : List Knowledge → ℕ → List ℕ
words_at [] q = []
words_at (known ∷ more) zero = known.words
words_at (known ∷ more) (suc q) = words_at more q

-- the number is that of a member of the group
abbrev pub is_member : List ℕ → ℕ → Bool
is_member group q = list_any (nat_eq q) group

-- by a scheme, where there is one, and how many argument registers a signature covers
abbrev pub scheme_target : Option ℕ → Option scheme.Scheme → Target
scheme_target covered None = Unknown
scheme_target covered (Some s) = Scheme s.base s.lines covered

-- How a callee is told: a procedure of the group by its own variables, another one by its scheme; a function outside by its signature,
-- where it has one; what a register holds, where nothing is added to it.
abbrev pub target_by : Program → List Knowledge → List (Option scheme.Scheme) → List ℕ → Callee → Bool → Target
target_by program known schemes group (callee.Proc q) is_plain =
    if is_member group q then Member q (words_at known q) else scheme_target None (slice_index_or schemes q None)
target_by program known schemes group (callee.Extern symbol) is_plain =
    scheme_target (args_at program symbol) (signature_at program symbol)
target_by program known schemes group (callee.Unknown register) is_plain = if is_plain then Held register else Unknown

abbrev pub linked_by : Program → List Knowledge → List (Option scheme.Scheme) → List ℕ → Call → Linked
linked_by program known schemes group call =
    record { call = call; target = target_by program known schemes group call.callee call.is_plain }

abbrev pub linked_in : Program → List Knowledge → List (Option scheme.Scheme) → List ℕ → List (List Call) → List (List Linked)
linked_in program known schemes group calls = map (λ (here : List Call). map (linked_by program known schemes group) here) calls

-- what the table is read against for the member of a group of a number, where the roles have these constants
pub record IsContext (program : Program) (known : List Knowledge) (roles : Roles) (schemes : List (Option scheme.Scheme))
    (group : List ℕ) (number : ℕ) (context : Context) : Type 0 where
  pub procedure : context.procedure ≡ number
  pub knowledge : Knowledge
  pub is_known : slice_get known number ≡ Some knowledge
  pub reading : context.reading ≡ knowledge.reading
  pub frame : context.frame ≡ knowledge.frame
  pub linked : context.linked ≡ linked_in program known schemes group knowledge.calls
  pub is_code : (symbol : ℕ) → context.is_code symbol ≡ is_code_symbol program.object symbol
  pub constant : (role : Role) → context.constant role ≡ role_in roles role

-- the rows of the member of a number
pub record AreRowsOf (program : Program) (known : List Knowledge) (roles : Roles) (schemes : List (Option scheme.Scheme))
    (group : List ℕ) (number : ℕ) (rows : List Row) : Type 0 where
  pub context : Context
  pub is_context : IsContext program known roles schemes group number context
  pub are_rows : AreProcedureRows context rows

-- The lists of the members of a group, which number their existentials together, where these signatures are given for functions outside,
-- and these schemes for procedures outside the group.
pub record AreLinesOf (object : Object) (roles : Roles) (procs : List procedure.Proc) (signatures : List Signature)
    (schemes : List (Option scheme.Scheme)) (group : List ℕ) (bodies : List (List Line)) : Type 0 where
  pub readings : List Reading
  pub known : List Knowledge
  pub are_known : AreKnown (record { object = object; procs = procs; readings = readings; signatures = signatures }) known
  pub rows : List (List Row)
  pub one_each : length rows ≡ length group
  pub are_rows : (i : ℕ) → i < length group
      → AreRowsOf (record { object = object; procs = procs; readings = readings; signatures = signatures }) known roles schemes group
      (get_or group i 0) (get_or rows i [])
  pub lines : bodies ≡ group_lines rows

-- the lines name only globals whose numbers are those of symbols
abbrev pub HasGlobalsOf : Object → List Line → Type 0
HasGlobalsOf object lines = (number : ℕ) → NamesBase lines (Global number) → number < length object.symbols

-- a scheme whose constants are below a count and whose globals are symbols
pub record IsGiven (object : Object) (count : ℕ) (given : scheme.Scheme) : Type 0 where
  pub constants : All (HasConstantsBelow count) given.lines
  pub globals : HasGlobalsOf object given.lines

-- so is each scheme that there is
abbrev pub AreGiven : Object → ℕ → List (Option scheme.Scheme) → Type 0
AreGiven object count schemes =
    (q : ℕ) (given : scheme.Scheme) → slice_index_or schemes q None ≡ Some given → IsGiven object count given
