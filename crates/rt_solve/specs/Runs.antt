-- Runs of a plan over the groups of an object's procedures, and what holds after each.
use Rattle.std.specs.Prelude.{◌≡◌, ℕ, ◌<◌, false, Option, Some, None, List, [], ◌∷◌, Contains, length, replicate, slice_index_or}
use Rattle.rt_lines.specs.Orders.{Below}
use Rattle.rt_lattice.specs.declared.roles.Roles.{Roles}
use Rattle.rt_elf.specs.Parts.{Parts as Object}
use Rattle.rt_proc.specs.declared.proc.Proc.{Proc}
use Rattle.rt_components.specs.Groups.{group_at}
use Rattle.rt_calls.specs.Calls.{AreGroupsOf}
use Rattle.rt_calls.specs.Callees.{AreCalleesOf}
use Rattle.rt_sigs.specs.Signatures.{Signature}
use Rattle.rt_scheme.specs.declared.scheme.Scheme.{Scheme}
use Rattle.rt_plan.specs.declared.event.Event.{Event}
use Rattle.rt_plan.specs.declared.event.Answer.{Answer}
use Rattle.rt_plan.specs.declared.event.State.TheVariants.{Open, Published}
use Rattle.rt_plan.specs.Plans.{Board, applied, callees_at, is_out, published_by, start, state_at, worker_of}
use Rattle.rt_solve.specs.Solved.{AddsSchemesOf, AreSolved, IsGroupSolved}

-- what is solved: the procedures of an object, by their groups and the groups that each one calls, with these signatures of functions
-- outside, and with the roles and the order of a lattice
pub record Task : Type 0 where
  pub object : Object
  pub roles : Roles
  pub order : Below
  pub procs : List Proc
  pub signatures : List Signature
  pub groups : List (List ℕ)
  pub callees : List (List ℕ)

-- its parts belong together
pub record IsTask (task : Task) : Type 0 where
  pub are_groups : AreGroupsOf task.procs task.groups
  pub are_callees : AreCalleesOf task.procs task.groups task.callees

-- a task of these parts
pub record IsTaskWith (object : Object) (roles : Roles) (order : Below) (procs : List Proc) (signatures : List Signature)
    (groups : List (List ℕ)) (task : Task) : Type 0 where
  pub object_is : task.object ≡ object
  pub roles_are : task.roles ≡ roles
  pub order_is : task.order ≡ order
  pub procs_are : task.procs ≡ procs
  pub signatures_are : task.signatures ≡ signatures
  pub groups_are : task.groups ≡ groups
  pub is_task : IsTask task

-- how far a run is: the board, and the schemes that were found
pub record Stage : Type 0 where
  pub board : Board
  pub schemes : List (Option Scheme)

-- what a run is seen as: its task, how far it is, and how many constants the lattice has
pub record Course : Type 0 where
  pub task : Task
  pub stage : Stage
  pub count : ℕ

-- before the first event: each group is open, and no scheme was found
abbrev pub first_stage : Task → ℕ → Stage
first_stage task workers = record { board = start workers task.callees; schemes = replicate (length task.procs) None }

-- the schemes after an event that publishes this group, if it publishes one: those of its members are added, of their lists with the
-- schemes that were there
abbrev pub AreSchemesAfter : Task → Option ℕ → List (Option Scheme) → List (Option Scheme) → Type 0
AreSchemesAfter task None old new = new ≡ old
AreSchemesAfter task (Some g) old new =
    AddsSchemesOf task.object task.roles task.order task.procs task.signatures (group_at task.groups g) old new

-- one event: the answer and the board are the plan's, and a group that it publishes is solved
pub record IsStep (task : Task) (old : Stage) (event : Event) (answer : Answer) (new : Stage) : Type 0 where
  pub is_worker : worker_of event < old.board.workers
  pub is_answer : (answer, new.board) ≡ applied old.board event
  pub are_schemes : AreSchemesAfter task (published_by old.board event) old.schemes new.schemes

-- events, one after the other
pub data IsRun (task : Task) : Stage → List Event → Stage → Type 0 where
  done : {stage : Stage} → IsRun task stage [] stage
  onward : {first middle last : Stage} {event : Event} {answer : Answer} {events : List Event} → IsStep task first event answer middle
      → IsRun task middle events last → IsRun task first (event ∷ events) last

-- What holds after each run: the schemes are exactly those of the published groups, each of which is solved, and a group is held or
-- published only where those that it calls are published.
pub record IsInOrder (task : Task) (stage : Stage) : Type 0 where
  pub one_each : length stage.schemes ≡ length task.procs
  pub published : (g : ℕ) → state_at stage.board g ≡ Published
      → IsGroupSolved task.object task.roles task.order task.procs task.signatures stage.schemes (group_at task.groups g)
  pub unpublished : (g q : ℕ) → is_out stage.board g ≡ false → Contains (group_at task.groups g) q
      → slice_index_or stage.schemes q None ≡ None
  pub callees_first : (g c : ℕ) → (state_at stage.board g ≡ Open → ⊥) → Contains (callees_at stage.board g) c
      → state_at stage.board c ≡ Published

-- the schemes of the published groups are those of these
abbrev pub AgreeWhere : Task → Stage → List (Option Scheme) → Type 0
AgreeWhere task stage solved =
    (g q : ℕ) → state_at stage.board g ≡ Published → Contains (group_at task.groups g) q
    → slice_index_or stage.schemes q None ≡ slice_index_or solved q None

-- Whatever the events, so it is, and the schemes are those of the solved procedures.
abbrev pub AnyOrder : Type 0
AnyOrder =
    (task : Task) (workers : ℕ) (events : List Event) (last : Stage) → IsTask task → IsRun task (first_stage task workers) events last
    → IsInOrder task last × ((solved : List (Option Scheme)) →
    AreSolved task.object task.roles task.order task.procs task.signatures task.groups solved → AgreeWhere task last solved)
