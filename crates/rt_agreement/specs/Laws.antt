-- That real definitions are one notion, that rows name only objects of the frame that are taken, and that schemes name
-- only argument registers that are taken.
use Rattle.std.specs.Prelude.{◌≡◌, ◌↔◌, ◌≤◌, ℕ, ℤ, Some, Option, true, List, Contains, slice_get}
use Rattle.std.specs.List.{list_any}
use Rattle.rt_lines.specs.Orders.{Below}
use Rattle.rt_proc.specs.declared.proc.Proc.{Proc}
use Rattle.rt_proc.specs.Procs.{AreProcs}
use Rattle.rt_calls.specs.Calls.{AreGroupsOf}
use Rattle.rt_body.specs.Readings.{Reading}
use Rattle.rt_body.specs.Right.{IsReading}
use Rattle.rt_lattice.specs.declared.roles.Roles.{Roles}
use Rattle.rt_scheme.specs.declared.scheme.Scheme.{Scheme}
use Rattle.rt_liveness.specs.declared.call.Call.{Call}
use Rattle.rt_liveness.specs.Programs.{IsProgram, Program}
use Rattle.rt_liveness.specs.Calls.{AreCallsIn}
use Rattle.rt_liveness.specs.Gives.{HasReal, result_register}
use Rattle.rt_frame.specs.Frames.{IsFrameOf}
use Rattle.rt_frame.specs.Questions.{is_real}
use Rattle.rt_rows.specs.declared.name.Name.TheVariants.{Object}
use Rattle.rt_rows.specs.declared.row.Row.{Row}
use Rattle.rt_rows.specs.Terms.{row_names}
use Rattle.rt_table.specs.Table.{AreProcedureRows, Context, calls_of}
use Rattle.rt_table.specs.Facts.{Knowledge, AreKnown}
use Rattle.rt_table.specs.Lists.{AreRowsOf, IsContext}
use Rattle.rt_solve.specs.Solved.{AreSolved}
use Rattle.rt_agreement.specs.Objects.{AreToldCalls, NameTaken}

-- Of a procedure of which this is known, with these calls at its sites: by the questions of its frame a real definition of the register of
-- a result reaches a site exactly where one does by what callees give.
abbrev pub OneReal : Type 0
OneReal =
    (program : Program) (q : ℕ) (proc : Proc) (reading : Reading) (calls : List (List Call)) (site r : ℕ)
    → slice_get program.procs q ≡ Some proc → slice_get program.readings q ≡ Some reading → IsReading program.object proc reading
    → AreCallsIn program q proc calls → r ≤ 1
    → (list_any (is_real reading calls (result_register r)) (reading.reaching site (result_register r)) ≡ true)
    ↔ HasReal program reading q site r

-- The rows of a procedure with such calls and this frame name only objects of its own, which begin at offsets that are taken.
abbrev pub ObjectsTaken : Type 0
ObjectsTaken =
    (context : Context) (rows : List Row) (row : Row) (procedure : ℕ) (start : ℤ)
    → IsFrameOf context.reading (calls_of context) context.frame → AreToldCalls context → AreProcedureRows context rows
    → Contains rows row → Contains (row_names row) (Object procedure start)
    → (procedure ≡ context.procedure) × Contains context.frame.layout.taken start

-- The table is read against the right frame and such calls, where this is known of the procedures, and these are the schemes of those
-- outside the group.
abbrev pub CallsTold : Type 0
CallsTold =
    (program : Program) (known : List Knowledge) (roles : Roles) (schemes : List (Option Scheme)) (group : List ℕ) (number : ℕ)
    (context : Context) → AreKnown program known → NameTaken program schemes group
    → IsContext program known roles schemes group number context
    → IsFrameOf context.reading (calls_of context) context.frame × AreToldCalls context

-- Schemes that are chosen name only argument registers that their procedures take. Where the schemes of a program's
-- procedures are solved, this is so of those outside a group, whatever the group, and so of all.
abbrev pub ChosenTaken : Type 0
ChosenTaken =
    (program : Program) (ends : List ℕ) (roles : Roles) (order : Below) (groups : List (List ℕ))
    (schemes : List (Option Scheme)) (group : List ℕ)
    → IsProgram program → AreProcs program.object ends program.procs → AreGroupsOf program.procs groups
    → AreSolved program.object roles order program.procs program.signatures groups schemes
    → NameTaken program schemes group

-- So the rows of a procedure, where callees have the schemes that are chosen for them, name only objects of its own,
-- which begin at offsets that are taken in its frame.
abbrev pub ChosenObjects : Type 0
ChosenObjects =
    (program : Program) (ends : List ℕ) (roles : Roles) (order : Below) (groups : List (List ℕ))
    (schemes : List (Option Scheme)) (known : List Knowledge) (group : List ℕ) (number : ℕ) (rows : List Row) (row : Row)
    (procedure : ℕ) (start : ℤ)
    → AreKnown program known → AreProcs program.object ends program.procs → AreGroupsOf program.procs groups
    → AreSolved program.object roles order program.procs program.signatures groups schemes
    → (are_rows : AreRowsOf program known roles schemes group number rows)
    → Contains rows row → Contains (row_names row) (Object procedure start)
    → (procedure ≡ number) × Contains are_rows.context.frame.layout.taken start
