-- The lattice and the signatures that a command works with, and when their files are refused.
use Rattle.std.specs.Prelude.{◌≡◌, ◌≢◌, ◌≤◌, ℕ, Option, Some, None, IfSome, List, [], ◌∷◌, length}
use Rattle.rt_lattice.specs.declared.fault.LatFault.TheVariants as lattice
use Rattle.rt_lattice.specs.Faults.{IsFirstFault, IsLatticeIn}
use Rattle.rt_lattice.specs.Lattices.{NamedOrder, IsLatticeOf}
use Rattle.rt_lattice.specs.Standard.{standard_file}
use Rattle.rt_sigs.specs.declared.fault.SigFault.TheVariants as signatures
use Rattle.rt_sigs.specs.Faults.{IsFault, most_bytes}
use Rattle.rt_sigs.specs.Signatures.{Signature}
use Rattle.rt_sigs.specs.SignatureTexts.{IsFileOf}
use Rattle.rt_run.specs.declared.refusal.Refusal.{Refusal}
use Rattle.rt_run.specs.declared.refusal.Refusal.TheVariants.{BadLattice, BadSignatures}

-- what names hold, where it is told
abbrev pub Contents : Type 0
Contents = List ℕ → Option (List ℕ)

abbrev pub with_first : Option (List ℕ) → Option (List (List ℕ)) → Option (List (List ℕ))
with_first None inputs = None
with_first (Some bytes) None = None
with_first (Some bytes) (Some inputs) = Some (bytes ∷ inputs)

-- what these names hold, in their order, where all of it is told
abbrev pub contents_of : Contents → List (List ℕ) → Option (List (List ℕ))
contents_of content [] = Some []
contents_of content (name ∷ names) = with_first (content name) (contents_of content names)

-- there is one of them, and it is such
abbrev pub OfOne : List (List ℕ) → (List ℕ → Type 0) → Type 0
OfOne [] P = ⊥
OfOne (bytes ∷ []) P = P bytes
OfOne (bytes ∷ other ∷ more) P = ⊥

-- the lattice of a file, where one is named, and else the standard one
abbrev pub IsLatticeFor : Contents → Option (List ℕ) → NamedOrder → Type 0
IsLatticeFor content None order = IsLatticeOf standard_file order
IsLatticeFor content (Some name) order = IfSome (content name) (λ (text : List ℕ). IsLatticeIn text order)

-- the signatures that a text says, with the constants of these names; it is no longer than a file may be
abbrev pub AreSignaturesIn : List (List ℕ) → List ℕ → List Signature → Type 0
AreSignaturesIn names text sigs = (length text ≤ most_bytes) × IsFileOf names text sigs

-- the signatures of a file, where one is named, with the constants of these names, and else none
abbrev pub AreSignaturesFor : Contents → List (List ℕ) → Option (List ℕ) → List Signature → Type 0
AreSignaturesFor content names None sigs = sigs ≡ []
AreSignaturesFor content names (Some name) sigs = IfSome (content name) (λ (text : List ℕ). AreSignaturesIn names text sigs)

-- the content of a lattice file is refused so: by its first fault
abbrev pub IsLatticeRefused : List ℕ → Refusal → Type 0
IsLatticeRefused text (BadLattice fault) = (fault ≢ lattice.Memory) × IsFirstFault text fault
IsLatticeRefused text other = ⊥

-- the content of a file of signatures is refused so: by its first fault
abbrev pub IsSignaturesRefused : List (List ℕ) → List ℕ → Refusal → Type 0
IsSignaturesRefused names text (BadSignatures fault) = (fault ≢ signatures.Memory) × IsFault names text fault
IsSignaturesRefused names text other = ⊥
