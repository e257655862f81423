-- Objects, and when one is refused.
use Rattle.std.specs.Prelude.{◌≡◌, ℕ, Some, None, List}
use Rattle.rt_elf.specs.declared.fault.ElfFault.TheVariants.{Bad}
use Rattle.rt_elf.specs.Parts.{Parts as Object}
use Rattle.rt_elf.specs.Checks.{first_fault}
use Rattle.rt_elf.specs.Object.{IsObject}
use Rattle.rt_link.specs.declared.fault.LinkFault.TheVariants.{Bad as BadReloc}
use Rattle.rt_link.specs.Checks.{link_fault}
use Rattle.rt_proc.specs.declared.proc.Proc.{Proc}
use Rattle.rt_proc.specs.Faults.{HasNoFault, IsFirstFault}
use Rattle.rt_proc.specs.Procs.{AreProcs}
use Rattle.rt_sigs.specs.Signatures.{Signature}
use Rattle.rt_liveness.specs.Ends.{ends_of}
use Rattle.rt_run.specs.declared.refusal.ObjectFault.{ObjectFault}
use Rattle.rt_run.specs.declared.refusal.ObjectFault.TheVariants.{Bytes, Relocation, Code}
use Rattle.rt_run.specs.declared.refusal.Refusal.{Refusal}
use Rattle.rt_run.specs.declared.refusal.Refusal.TheVariants.{Object as BadObject}

-- the bytes pass all checks of an object, and are read as this one
pub record IsReadAs (bytes : List ℕ) (object : Object) : Type 0 where
  pub unrefused : first_fault bytes ≡ None
  pub is_object : IsObject bytes object

-- An object of the profile, where the functions of these symbols don't return: its relocations pass all checks, its code has no fault,
-- and these are its procedures.
pub record IsInProfile (object : Object) (ends : List ℕ) (procs : List Proc) : Type 0 where
  pub linked : link_fault object ≡ None
  pub is_sound : HasNoFault object ends
  pub are_procs : AreProcs object ends procs

-- why an object is refused whose bytes pass all checks, where the functions of these symbols don't return: the first check of its
-- relocations that fails, else the first fault of its code
abbrev pub IsFaultOfObject : Object → List ℕ → ObjectFault → Type 0
IsFaultOfObject object ends (Bytes number byte) = ⊥
IsFaultOfObject object ends (Relocation number section offset) = link_fault object ≡ Some (BadReloc number section offset)
IsFaultOfObject object ends (Code number section offset) =
    (link_fault object ≡ None) × IsFirstFault object ends number (record { section = section; offset = offset })

abbrev pub IsObjectRefused : Object → List ℕ → Refusal → Type 0
IsObjectRefused object ends (BadObject fault) = IsFaultOfObject object ends fault
IsObjectRefused object ends other = ⊥

-- why the bytes of an object are refused, where these are the signatures of functions outside: the first check of them that fails, else
-- what refuses the object that they are read as
pub data IsRefused (signatures : List Signature) (bytes : List ℕ) : Refusal → Type 0 where
  of_bytes : (number byte : ℕ) → first_fault bytes ≡ Some (Bad number byte) →
      IsRefused signatures bytes (BadObject (Bytes number byte))
  of_object : (object : Object) (refusal : Refusal) → IsReadAs bytes object → IsObjectRefused object (ends_of object signatures) refusal
      → IsRefused signatures bytes refusal
