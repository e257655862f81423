-- What is worked out of an object before it is told.
use Rattle.std.specs.Prelude.{◌≡◌, ℕ, ◌<◌, All, Option, Some, None, IsSome, List, [], get_or, length, slice_index_or}
use Rattle.rt_lines.specs.declared.line.Line.{Line}
use Rattle.rt_lines.specs.Lines.{HasConstantsBelow}
use Rattle.rt_lattice.specs.Lattices.{NamedOrder, size_of}
use Rattle.rt_elf.specs.Parts.{Parts as Object}
use Rattle.rt_proc.specs.declared.proc.Proc.{Proc}
use Rattle.rt_calls.specs.Calls.{AreGroupsOf}
use Rattle.rt_scheme.specs.declared.scheme.Scheme.{Scheme}
use Rattle.rt_sigs.specs.Signatures.{Signature, AreSignatures}
use Rattle.rt_table.specs.Facts.{IsFactsOf}
use Rattle.rt_table.specs.Lists.{AreGiven, HasGlobalsOf}
use Rattle.rt_solve.specs.Solved.{AreSolved}
use Rattle.rt_run.specs.declared.analysis.Analysis.{Analysis}
use Rattle.rt_run.specs.declared.content.Told.{Told}
use Rattle.rt_run.specs.Reports.{IsTold}

-- its object, and the object's procedures
abbrev pub object_in : Analysis → Object
object_in analysis = analysis.facts.object.now

abbrev pub procs_in : Analysis → List Proc
procs_in analysis = analysis.facts.procs.now

-- its parts belong together
pub record IsAnalysis (analysis : Analysis) : Type 0 where
  pub facts : IsFactsOf (object_in analysis) (procs_in analysis) analysis.facts.sigs.now analysis.facts
  pub same : analysis.sigs.now ≡ analysis.facts.sigs.now
  pub signatures : AreSignatures (size_of analysis.lattice.now) analysis.sigs.now
  pub groups : AreGroupsOf (procs_in analysis) analysis.groups
  pub solved : AreSolved (object_in analysis) analysis.lattice.now.roles analysis.lattice.now.order (procs_in analysis) analysis.sigs.now
      analysis.groups analysis.schemes
  pub given : AreGiven (object_in analysis) (size_of analysis.lattice.now) analysis.schemes

-- lines of which constants are below a count and globals are symbols
pub record AreKept (object : Object) (count : ℕ) (lines : List Line) : Type 0 where
  pub constants : All (HasConstantsBelow count) lines
  pub globals : HasGlobalsOf object lines

-- lines that are told of the procedure of a number
pub record AreToldOf (told : Told) (object : Object) (order : NamedOrder) (signatures : List Signature) (procs : List Proc)
    (schemes : List (Option Scheme)) (number : ℕ) (lines : List Line) : Type 0 where
  pub are_told : IsTold told object order signatures procs schemes number lines
  pub are_kept : AreKept object (size_of order) lines

-- of each number the lines are such, where there are any
abbrev pub AreLists : Told → Object → NamedOrder → List Signature → List Proc → List (Option Scheme) →
    List (Option (List Line)) → Type 0
AreLists told object order signatures procs schemes lists =
    (number : ℕ) (lines : List Line) → slice_index_or lists number None ≡ Some lines
    → AreToldOf told object order signatures procs schemes number lines

-- the same for those of an analysis
abbrev pub AreListsOf : Told → Analysis → List (Option (List Line)) → Type 0
AreListsOf told analysis = AreLists told (object_in analysis) analysis.lattice.now analysis.sigs.now (procs_in analysis) analysis.schemes

-- there are lines of the procedure of a number
abbrev pub IsListed : List (Option (List Line)) → ℕ → Type 0
IsListed lists number = IsSome (slice_index_or lists number None)

-- there are lines of each member of a group
abbrev pub AreListed : List (Option (List Line)) → List ℕ → Type 0
AreListed lists group = (i : ℕ) → i < length group → IsListed lists (get_or group i 0)
