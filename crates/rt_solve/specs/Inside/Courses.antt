-- What a run holds, and the schemes that it finds for a group.
use Rattle.std.specs.Prelude.{◌≡◌, ℕ, Option, List, All, length}
use Rattle.rt_lines.specs.declared.line.Line.{Line}
use Rattle.rt_lines.specs.Lines.{HasConstantsBelow}
use Rattle.rt_lattice.specs.Lattices.{NamedOrder, size_of}
use Rattle.rt_calls.specs.Calls.{AreGroupsOf}
use Rattle.rt_calls.specs.Callees.{AreCalleesOf}
use Rattle.rt_scheme.specs.declared.scheme.Scheme.{Scheme}
use Rattle.rt_sigs.specs.Signatures.{AreSignatures, Signature}
use Rattle.rt_table.specs.declared.facts.Facts.{Facts}
use Rattle.rt_table.specs.Facts.{IsFactsOf}
use Rattle.rt_table.specs.Lists.{AreGiven, AreLinesOf, HasGlobalsOf}
use Rattle.rt_plan.specs.Plans.{Board}
use Rattle.rt_settle.specs.Groups.{AreSchemesOf, joined}
use Rattle.rt_solve.specs.Runs.{Course, Task}

-- the task of a run over these
abbrev pub task_of : Facts → List (List ℕ) → List Signature → NamedOrder → Board → Task
task_of facts groups signatures lattice board = record {
  object = facts.object.now;
  roles = lattice.roles;
  order = lattice.order;
  procs = facts.procs.now;
  signatures = signatures;
  groups = groups;
  callees = board.callees;
}

-- what a run is seen as
abbrev pub course_of : Facts → List (List ℕ) → List Signature → NamedOrder → Board → List (Option Scheme) → Course
course_of facts groups signatures lattice board schemes = record {
  task = task_of facts groups signatures lattice board;
  stage = record { board = board; schemes = schemes };
  count = size_of lattice;
}

-- the parts of a run belong together
pub record IsCourse (facts : Facts) (groups : List (List ℕ)) (signatures : List Signature) (lattice : NamedOrder) (board : Board)
    (schemes : List (Option Scheme)) : Type 0 where
  pub facts_are : IsFactsOf facts.object.now facts.procs.now facts.sigs.now facts
  pub signatures_are : signatures ≡ facts.sigs.now
  pub are_signatures : AreSignatures (size_of lattice) signatures
  pub are_groups : AreGroupsOf facts.procs.now groups
  pub are_callees : AreCalleesOf facts.procs.now groups board.callees
  pub states : length board.states ≡ length groups
  pub one_each : length schemes ≡ length facts.procs.now
  pub given : AreGiven facts.object.now (size_of lattice) schemes

-- schemes for the members of a group, of their lists where callees outside the group have the schemes of a run
pub record AreFoundFor (course : Course) (group : List ℕ) (found : List Scheme) : Type 0 where
  pub bodies : List (List Line)
  pub are_lines : AreLinesOf course.task.object course.task.roles course.task.procs course.task.signatures course.stage.schemes group bodies
  pub are_schemes : AreSchemesOf course.task.order group (joined bodies) found
  pub constants : All (All (HasConstantsBelow course.count)) bodies
  pub globals : All (HasGlobalsOf course.task.object) bodies
