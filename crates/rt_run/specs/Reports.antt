-- What `constraints` and `schemes` write for an object.
use Rattle.std.specs.Prelude.{◌≡◌, ℕ, ◌<◌, Contains, List, [], get_or, length, slice_index_or, Option, Some, None}
use Rattle.rt_lines.specs.declared.line.Line.{Line}
use Rattle.rt_lattice.specs.Lattices.{NamedOrder}
use Rattle.rt_elf.specs.Parts.{Parts as Object}
use Rattle.rt_proc.specs.declared.proc.Proc.{Proc}
use Rattle.rt_calls.specs.Calls.{AreGroupsOf}
use Rattle.rt_sigs.specs.Signatures.{Signature}
use Rattle.rt_liveness.specs.Ends.{ends_of}
use Rattle.rt_table.specs.Lists.{AreLinesOf}
use Rattle.rt_solve.specs.Solved.{AreSolved}
use Rattle.rt_scheme.specs.declared.scheme.Scheme.{Scheme}
use Rattle.rt_scheme.specs.declared.report.Entry.{Entry}
use Rattle.rt_scheme.specs.declared.report.Report.{Report}
use Rattle.rt_scheme.specs.Reports.{report_text}
use Rattle.rt_reports.specs.GoodReports.{IsReport}
use Rattle.rt_run.specs.declared.content.Told.{Told}
use Rattle.rt_run.specs.declared.content.Told.TheVariants.{Constraints, Schemes}
use Rattle.rt_run.specs.Objects.{IsInProfile}
use Rattle.rt_run.specs.Globals.{AreGlobals}

-- The schemes of an object's procedures: in each group of procedures that call each other, each member's scheme is reduced (nothing in it
-- is to spare) and gives whoever calls it, under the order of the lattice, the same as the lists of the group's members together, where
-- callees outside the group have these same schemes and functions outside their signatures.
pub record AreSchemes (object : Object) (order : NamedOrder) (signatures : List Signature) (procs : List Proc)
    (schemes : List (Option Scheme)) : Type 0 where
  pub groups : List (List ℕ)
  pub are_groups : AreGroupsOf procs groups
  pub are_solved : AreSolved object order.roles order.order procs signatures groups schemes

-- the lines of the procedure of a number, by the table, with such schemes of its callees
pub record AreConstraints (object : Object) (order : NamedOrder) (signatures : List Signature) (procs : List Proc)
    (schemes : List (Option Scheme)) (number : ℕ) (lines : List Line) : Type 0 where
  pub groups : List (List ℕ)
  pub are_groups : AreGroupsOf procs groups
  pub group : List ℕ
  pub is_group : Contains groups group
  pub bodies : List (List Line)
  pub are_lines : AreLinesOf object order.roles procs signatures schemes group bodies
  pub place : ℕ
  pub within : place < length group
  pub is_member : get_or group place 0 ≡ number
  pub lines_are : lines ≡ get_or bodies place []

-- the lines are those of the procedure's scheme
pub record IsScheme (schemes : List (Option Scheme)) (number : ℕ) (lines : List Line) : Type 0 where
  pub scheme : Scheme
  pub is_scheme : slice_index_or schemes number None ≡ Some scheme
  pub lines_are : lines ≡ scheme.lines

-- what a report tells of the procedure of a number
abbrev pub IsTold : Told → Object → NamedOrder → List Signature → List Proc → List (Option Scheme) → ℕ →
    List Line → Type 0
IsTold Constraints object order signatures procs schemes = AreConstraints object order signatures procs schemes
IsTold Schemes object order signatures procs schemes = IsScheme schemes

-- an entry for the procedure of a number: its number, its place and its name
pub record IsEntryOf (number : ℕ) (proc : Proc) (entry : Entry) : Type 0 where
  pub has_number : entry.number ≡ number
  pub section : entry.place.section ≡ proc.entry.section
  pub offset : entry.place.offset ≡ proc.entry.offset
  pub name : entry.name ≡ proc.name

-- an entry for each procedure, in the order of their numbers
pub record AreEntries (told : Told) (object : Object) (order : NamedOrder) (signatures : List Signature) (procs : List Proc)
    (schemes : List (Option Scheme)) (entries : List Entry) : Type 0 where
  pub one_each : length entries ≡ length procs
  pub each : (number : ℕ) (proc : Proc) (entry : Entry) → number < length procs
      → IsEntryOf number (get_or procs number proc) (get_or entries number entry)
  pub lines : (number : ℕ) (entry : Entry) → number < length procs
      → IsTold told object order signatures procs schemes number (get_or entries number entry).lines

-- a right report of an object of the profile, with this lattice and these signatures
pub record IsRightOf (told : Told) (order : NamedOrder) (signatures : List Signature) (object : Object) (report : Report) : Type 0 where
  pub procs : List Proc
  pub in_profile : IsInProfile object (ends_of object signatures) procs
  pub schemes : List (Option Scheme)
  pub are_schemes : AreSchemes object order signatures procs schemes
  pub entries : AreEntries told object order signatures procs schemes report.entries
  pub globals : AreGlobals object report.entries report.globals

-- the text of a right report of an object, which is well formed, so that no other such report has the text
pub record IsReportOf (told : Told) (order : NamedOrder) (signatures : List Signature) (object : Object) (text : List ℕ) : Type 0 where
  pub report : Report
  pub is_right : IsRightOf told order signatures object report
  pub is_good : IsReport (length order.names) report
  pub is_text : text ≡ report_text order.names report
