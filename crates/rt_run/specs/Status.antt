-- What the commands write, when they refuse, and how a run ends.
use Rattle.std.specs.Prelude.{◌≡◌, ℕ, List, [], ◌∷◌, ◌++◌, length, take, Option, Some, None, IfSome}
use Rattle.rt_base.specs.Outside.{Rose}
use Rattle.rt_lattice.specs.Lattices.{NamedOrder}
use Rattle.rt_sigs.specs.Signatures.{Signature}
use Rattle.rt_run.specs.declared.refusal.Refusal.{Refusal}
use Rattle.rt_run.specs.declared.stop.Stop.{Stop}
use Rattle.rt_run.specs.declared.stop.Stop.TheVariants.{Refused, NoRead, NoMemory}
use Rattle.rt_run.specs.declared.stop.Ending.{Ending}
use Rattle.rt_run.specs.declared.stop.Ending.TheVariants.{Written, NoWrite, Stopped}
use Rattle.rt_run.specs.declared.no_text.NoText.{NoText}
use Rattle.rt_run.specs.declared.no_text.NoText.TheVariants.{Refused as RefusedText, Memory as NoTextMemory}
use Rattle.rt_run.specs.Words.{Command, Report, Entail, Step, OfLattice, OfSignatures, OfInput, lattice_of, signatures_of, inputs_of}
use Rattle.rt_run.specs.Inputs.{Contents, contents_of, OfOne, IsLatticeFor, AreSignaturesFor, IsLatticeRefused, IsSignaturesRefused}
use Rattle.rt_run.specs.Objects.{IsRefused}
use Rattle.rt_run.specs.Texts.{IsObjectText}
use Rattle.rt_run.specs.Entails.{IsEntailRefused, IsEntailText}

-- the last of these contents of a command's own files is refused so, with this lattice and these signatures
abbrev pub IsInputRefused : Command → NamedOrder → List Signature → List (List ℕ) → Refusal → Type 0
IsInputRefused (Report content options object) order signatures inputs refusal =
    OfOne inputs (λ (bytes : List ℕ). IsRefused signatures bytes refusal)
IsInputRefused (Entail lattice file judgement) order signatures inputs refusal =
    OfOne inputs (λ (text : List ℕ). IsEntailRefused order.names judgement text refusal)

-- none of these contents of a command's first files is refused
abbrev pub AreAccepted : Command → NamedOrder → List Signature → List (List ℕ) → Type 0
AreAccepted command order signatures inputs =
    (k : ℕ) (refusal : Refusal) → IsInputRefused command order signatures (take k inputs) refusal → ⊥

-- the text is what the command writes for the contents of its own files, with this lattice and these signatures
abbrev pub IsTextFor : Command → NamedOrder → List Signature → List (List ℕ) → List ℕ → Type 0
IsTextFor (Report content options object) order signatures inputs text =
    OfOne inputs (λ (bytes : List ℕ). IsObjectText content order signatures bytes text)
IsTextFor (Entail lattice file judgement) order signatures inputs text =
    OfOne inputs (λ (lines : List ℕ). IsEntailText order judgement lines text)

-- the lattice and the signatures that a command works with
pub record AreInputs (command : Command) (content : Contents) (order : NamedOrder) (signatures : List Signature) : Type 0 where
  pub is_lattice : IsLatticeFor content (lattice_of command) order
  pub are_signatures : AreSignaturesFor content order.names (signatures_of command) signatures

-- what out gained is what a text that the command writes gives it, where the contents of its files are told
pub record Writes (command : Command) (content : Contents) (IsGained : List ℕ → Type 0) : Type 0 where
  pub order : NamedOrder
  pub signatures : List Signature
  pub are_inputs : AreInputs command content order signatures
  pub text : List ℕ
  pub is_text : IfSome (contents_of content (inputs_of command))
      (λ (inputs : List (List ℕ)). IsTextFor command order signatures inputs text)
  pub gained : IsGained text

-- A command comes to its own file of this number and name: its lattice, its signatures and its files before that one are accepted.
pub record ComesToInput (command : Command) (content : Contents) (number : ℕ) (name : List ℕ) : Type 0 where
  pub order : NamedOrder
  pub signatures : List Signature
  pub are_inputs : AreInputs command content order signatures
  pub before : List (List ℕ)
  pub after : List (List ℕ)
  pub are_names : inputs_of command ≡ before ++ name ∷ after
  pub is_number : number ≡ length before
  pub accepted : IfSome (contents_of content before) (AreAccepted command order signatures)

-- A file of a command, by its step, has this name, and the files before it are accepted.
abbrev pub ComesTo : Command → Contents → Step → List ℕ → Type 0
ComesTo command content OfLattice name = lattice_of command ≡ Some name
ComesTo command content OfSignatures name =
    ((order : NamedOrder) × IsLatticeFor content (lattice_of command) order) × (signatures_of command ≡ Some name)
ComesTo command content (OfInput number) name = ComesToInput command content number name

-- a command comes to its own file of this number and name, and that file is refused
pub record IsRefusedAt (command : Command) (content : Contents) (number : ℕ) (name : List ℕ) (refusal : Refusal) : Type 0 where
  pub comes : ComesToInput command content number name
  pub refused : IfSome (contents_of content (comes.before ++ name ∷ []))
      (λ (inputs : List (List ℕ)). IsInputRefused command comes.order comes.signatures inputs refusal)

-- A refusal is that of the first file of a command that is refused.
pub data IsRefusedBy (command : Command) (content : Contents) (refusal : Refusal) : Type 0 where
  of_lattice : (name : List ℕ) → lattice_of command ≡ Some name
      → IfSome (content name) (λ (text : List ℕ). IsLatticeRefused text refusal) → IsRefusedBy command content refusal
  of_signatures : (name : List ℕ) (order : NamedOrder) → IsLatticeFor content (lattice_of command) order →
      signatures_of command ≡ Some name
      → IfSome (content name) (λ (text : List ℕ). IsSignaturesRefused order.names text refusal) → IsRefusedBy command content refusal
  of_input : (number : ℕ) (name : List ℕ) → IsRefusedAt command content number name refusal → IsRefusedBy command content refusal

-- why something has no use: it is refused so, or there is no memory
abbrev pub IsStopOf : (Refusal → Type 0) → Stop → Type 0
IsStopOf Refuses (Refused refusal) = Refuses refusal
IsStopOf Refuses (NoRead unread) = ⊥
IsStopOf Refuses NoMemory = Unit {0}

-- why there is no text, and why a command stops: the same
abbrev pub IsStopFor : Stop → NoText → Type 0
IsStopFor stop (RefusedText refusal) = stop ≡ Refused refusal
IsStopFor stop NoTextMemory = stop ≡ NoMemory

-- Why a file has no use to a command, where `Refuses` says which contents are refused. `content` tells what names hold, where it is told;
-- `faults` and `faults'` count the faults of each name before and after.
abbrev pub StopsAt : (List ℕ → Refusal → Type 0) → Contents → (List ℕ → ℕ) → (List ℕ → ℕ) → List ℕ →
    Stop → Type 0
StopsAt Refuses content faults faults' name (Refused refusal) = IfSome (content name) (λ (bytes : List ℕ). Refuses bytes refusal)
StopsAt Refuses content faults faults' name (NoRead unread) = (unread.now ≡ name) × Rose (faults name) (faults' name)
StopsAt Refuses content faults faults' name NoMemory = Unit {0}

-- the same of a file that may be named
abbrev pub StopsFor : (List ℕ → Refusal → Type 0) → Contents → (List ℕ → ℕ) → (List ℕ → ℕ) → Option (List ℕ) →
    Stop → Type 0
StopsFor Refuses content faults faults' None stop = stop ≡ NoMemory
StopsFor Refuses content faults faults' (Some name) stop = StopsAt Refuses content faults faults' name stop

-- why a command has no text
abbrev pub Stops : Command → Contents → (List ℕ → ℕ) → (List ℕ → ℕ) → Stop → Type 0
Stops command content faults faults' (Refused refusal) = IsRefusedBy command content refusal
Stops command content faults faults' (NoRead name) =
    (step : Step) × ComesTo command content step name.now × Rose (faults name.now) (faults' name.now)
Stops command content faults faults' NoMemory = Unit {0}

-- the text is what a command writes, where the contents of its files are told
abbrev pub Gives : Command → Contents → List ℕ → Type 0
Gives command content text = Writes command content (λ (given : List ℕ). given ≡ text)

-- How the work of a command ends: a text was put, or a put failed and so rose a count of faults, or it stopped and out is as it was.
-- `Whole` and `Front` say what out has of a text that was put, and of one of which a put failed.
abbrev pub Ends : Command → Contents → (List ℕ → ℕ) → (List ℕ → ℕ) → (List ℕ → Type 0) → Type 0 →
    (List ℕ → Type 0) → Type 0 →
    Ending → Type 0
Ends command content faults faults' Whole Failed Front Same Written = Writes command content Whole
Ends command content faults faults' Whole Failed Front Same NoWrite = Failed × Writes command content Front
Ends command content faults faults' Whole Failed Front Same (Stopped stop) = Stops command content faults faults' stop × Same
