-- What the entries, the bodies and the faults of an object's code have in common, whatever undefined symbols end paths.
use Rattle.std.specs.Prelude.{◌≡◌, ◌≢◌, ◌↔◌, ℕ, ◌<◌, IsTrue, Bool, Ok, All, Contains, List, length}
use Rattle.rt_elf.specs.Parts.{Parts as Object}
use Rattle.rt_elf.specs.Object.{IsLinkable}
use Rattle.rt_insn.specs.Range.{HasRange}
use Rattle.rt_link.specs.declared.place.Place.{Place}
use Rattle.rt_control.specs.declared.form.Form.{Form}
use Rattle.rt_control.specs.Laws.{IsGood, IsUndefined}
use Rattle.rt_proc.specs.Ends.{IsLookAt}
use Rattle.rt_proc.specs.declared.proc.Proc.{Proc}
use Rattle.rt_proc.specs.declared.site.Callee.{Callee}
use Rattle.rt_proc.specs.declared.site.Callee.TheVariants as callee
use Rattle.rt_proc.specs.declared.site.Kind.{Kind}
use Rattle.rt_proc.specs.declared.site.Kind.TheVariants as kind
use Rattle.rt_proc.specs.declared.site.Site.{Site}
use Rattle.rt_proc.specs.Bodies.{IsInBody}
use Rattle.rt_proc.specs.Entries.{IsFunction, Calls, IsReached, IsEntry}
use Rattle.rt_proc.specs.Faults.{IsFirstFault}
use Rattle.rt_proc.specs.Procs.{places_of, entries_of, AreProcs}
use Rattle.rt_proc.specs.Sites.{is_entry}
use Rattle.rt_proc.specs.Steps.{steps}
use Rattle.rt_proc.specs.Walks.{Walk}

-- Entries are the least set of places that has the functions and what is called in the bodies of its places.

-- the site at a place steps to another that is outside a set or is `own`
pub record StepsOutside (object : Object) (ends : List ℕ) (set : Place → Bool) (own from to : Place) : Type 0 where
  pub form : Form
  pub is_at : IsLookAt object ends from (Ok form)
  pub steps : Contains (steps form) to
  pub stays : IsTrue (set to) → to ≡ own

-- what such steps lead to from a place of the set
abbrev pub IsInBodyOf : Object → List ℕ → (Place → Bool) → Place → Place → Type 0
IsInBodyOf object ends set own place = Walk (λ p. p ≡ own) (StepsOutside object ends set own) place

-- a set has the functions, and what is called in the bodies of its places
pub record IsCallClosed (object : Object) (ends : List ℕ) (set : Place → Bool) : Type 0 where
  pub functions : (place : Place) → IsFunction object place → IsTrue (set place)
  pub calls : (own from to : Place) → IsTrue (set own) → IsInBodyOf object ends set own from → Calls object ends from to →
      IsTrue (set to)

-- each such set has all entries
abbrev pub IsLawOfLeast : Type 0
IsLawOfLeast =
    (object : Object) (ends : List ℕ) (set : Place → Bool) → IsCallClosed object ends set
    → (place : Place) → IsEntry object ends place → IsTrue (set place)

-- the entries of the procedures are such a set
abbrev pub IsLawOfClosed : Type 0
IsLawOfClosed =
    (object : Object) (ends : List ℕ) (procs : List Proc) → AreProcs object ends procs
    → IsCallClosed object ends (is_entry (entries_of procs))

-- what is reached is what the bodies have together
abbrev pub IsLawOfBodies : Type 0
IsLawOfBodies =
    (object : Object) (ends : List ℕ) (procs : List Proc) → AreProcs object ends procs
    → (place : Place) → IsReached object ends place ↔ ((own : Place) × IsEntry object ends own × IsInBody object ends own place)

-- a procedure's entry is one of its sites, and each step of a site leads to one
pub record IsClosed (proc : Proc) : Type 0 where
  pub entry : Contains (places_of proc.sites) proc.entry
  pub next : All (λ (site : Site). All (Contains (places_of proc.sites)) site.next) proc.sites

abbrev pub IsLawOfSteps : Type 0
IsLawOfSteps = (object : Object) (ends : List ℕ) (procs : List Proc) → AreProcs object ends procs → All IsClosed procs

-- a callee is the number of a procedure, an undefined symbol of the object, or one of the 32 registers
abbrev pub IsCallee : Object → ℕ → Callee → Type 0
IsCallee object count (callee.Proc number) = number < count
IsCallee object count (callee.Extern symbol) = IsUndefined object symbol
IsCallee object count (callee.Unknown register) = register < 32

-- so is whom a site calls
abbrev pub IsKind : Object → ℕ → Kind → Type 0
IsKind object count (kind.Plain insn) = HasRange insn
IsKind object count (kind.Call callee link) = IsCallee object count callee × (link < 32)
IsKind object count kind.Return = Unit {0}
IsKind object count kind.Stop = Unit {0}

-- and where it goes on for good
abbrev pub HasCallees : Object → ℕ → Site → Type 0
HasCallees object count site = IsKind object count site.kind × All (IsCallee object count) site.tails

abbrev pub IsLawOfCallees : Type 0
IsLawOfCallees =
    (object : Object) (ends : List ℕ) (procs : List Proc) → IsLinkable object → AreProcs object ends procs
    → All (λ (proc : Proc). All (HasCallees object (length procs)) proc.sites) procs

-- each site stands at a good place
abbrev pub IsLawOfPlaces : Type 0
IsLawOfPlaces =
    (object : Object) (ends : List ℕ) (procs : List Proc) → AreProcs object ends procs
    → All (λ (proc : Proc). All (IsGood object) (places_of proc.sites)) procs

-- so does a first fault, but that of a function may stand anywhere
abbrev pub IsLawOfFaultPlaces : Type 0
IsLawOfFaultPlaces =
    (object : Object) (ends : List ℕ) (number : ℕ) (place : Place) → IsFirstFault object ends number place → number ≢ 31
    → IsGood object place

-- there is one first fault at most
abbrev pub IsLawOfOneFault : Type 0
IsLawOfOneFault =
    (object : Object) (ends : List ℕ) (number other_number : ℕ) (place other : Place)
    → IsFirstFault object ends number place → IsFirstFault object ends other_number other →
    (number ≡ other_number) × (place ≡ other)

-- an object has one list of procedures, where these symbols end paths
abbrev pub IsLawOfOneList : Type 0
IsLawOfOneList =
    (object : Object) (ends : List ℕ) (first second : List Proc) → AreProcs object ends first → AreProcs object ends second →
    first ≡ second
