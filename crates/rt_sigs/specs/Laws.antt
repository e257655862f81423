-- What is true of the texts of signatures.
use Rattle.std.specs.Prelude.{◌≡◌, ◌≢◌, ◌≤◌, ℕ, List, ◌++◌, length}
use Rattle.rt_lines.specs.Names.{AreNames}
use Rattle.rt_sigs.specs.declared.fault.SigFault.{SigFault}
use Rattle.rt_sigs.specs.declared.fault.SigFault.TheVariants.{Memory}
use Rattle.rt_sigs.specs.declared.version.Version.TheVariants.{First, Second}
use Rattle.rt_sigs.specs.Signatures.{Signature}
use Rattle.rt_sigs.specs.SignatureTexts.{version_text, IsFileIn, IsFileOf}
use Rattle.rt_sigs.specs.Faults.{IsFault, most_bytes}

-- A text of the first version with the second's line before it is one of the second, and stands for the same signatures.
abbrev pub UpgradeLaw : Type 0
UpgradeLaw =
    (names : List (List ℕ)) (text : List ℕ) (signatures : List Signature) → IsFileIn First names text signatures
    → IsFileIn Second names (version_text Second ++ text) signatures

-- A text is that of one list of signatures.
abbrev pub OneFileLaw : Type 0
OneFileLaw =
    (names : List (List ℕ)) (text : List ℕ) (first second : List Signature) → AreNames names
    → IsFileOf names text first → IsFileOf names text second → first ≡ second

-- A text of signatures that is not too large has no fault, so its reading fails for out of memory alone.
abbrev pub NoFaultLaw : Type 0
NoFaultLaw =
    (names : List (List ℕ)) (text : List ℕ) (signatures : List Signature) (fault : SigFault) → AreNames names
    → length text ≤ most_bytes → IsFileOf names text signatures → IsFault names text fault → fault ≡ Memory

-- A text has one fault besides out of memory.
abbrev pub OneFaultLaw : Type 0
OneFaultLaw =
    (names : List (List ℕ)) (text : List ℕ) (first second : SigFault) → AreNames names → first ≢ Memory → second ≢ Memory
    → IsFault names text first → IsFault names text second → first ≡ second
