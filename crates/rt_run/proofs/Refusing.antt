-- Which refusals come first.
use Rattle.std.proofs.Common.{◌≡◌, ℕ, ◌<◌, Option, Some, None, List, nat_lt, true, length, refl, subst, sym}
use Rattle.std.specs.Prelude.{IfErr, IfSome, Ok, Err, Result}
use Rattle.std.proofs.lemmas.Bool.{lt-ltb}
use Rattle.rt_elf.specs.declared.fault.ElfFault.TheVariants.{Bad}
use Rattle.rt_elf.specs.Checks.{first_fault}
use Rattle.rt_elf.specs.Header.{header_fault, size_fault}
use Rattle.rt_lattice.specs.declared.fault.LatFault.TheVariants as lattice
use Rattle.rt_lattice.specs.Faults.IsFirstFault.{is_too_long as is_first_long}
use Rattle.rt_run.specs.declared.refusal.ObjectFault.TheVariants.{Bytes}
use Rattle.rt_run.specs.declared.refusal.Refusal.{Refusal}
use Rattle.rt_run.specs.declared.refusal.Refusal.TheVariants.{Object, BadLattice, TextTooLarge}
use Rattle.rt_run.specs.declared.stop.Stop.{Stop}
use Rattle.rt_run.specs.declared.stop.Stop.TheVariants.{Refused, NoRead, NoMemory}
use Rattle.rt_run.specs.Inputs.{Contents, IsLatticeRefused}
use Rattle.rt_sigs.specs.Signatures.{Signature}
use Rattle.rt_run.specs.declared.no_text.NoText.{NoText}
use Rattle.rt_run.specs.declared.no_text.NoText.TheVariants.{Refused as RefusedText, Memory as NoTextMemory}
use Rattle.rt_run.specs.Inside.NoTexts.{IsNoText}
use Rattle.rt_elf.specs.Parts.{Parts as ReadObject}
use Rattle.rt_liveness.specs.Ends.{ends_of}
use Rattle.rt_run.specs.Objects.{IsObjectRefused, IsReadAs, IsRefused}
use Rattle.rt_run.specs.Objects.IsRefused.{of_bytes, of_object}
use Rattle.rt_run.specs.Entails.{IsEntailRefused}
use Rattle.rt_run.specs.Status.{StopsAt}

-- bytes that are too many are refused first
is_too_long : (bytes : List ℕ) → 16777216 < length bytes → first_fault bytes ≡ Some (Bad 16 16777216)
unfolding first_fault header_fault size_fault
is_too_long bytes h = let t : nat_lt 16777216 (length bytes) ≡ true = lt-ltb 16777216 (length bytes) h in rw t refl

pub object_too_large : (signatures : List Signature) (bytes : List ℕ) (refusal : Refusal) → (16777216 < length bytes) × (refusal ≡ Object (Bytes 16 16777216))
    → IsRefused signatures bytes refusal
object_too_large signatures bytes refusal h = subst (IsRefused signatures bytes) (sym h.1) (of_bytes 16 16777216 (is_too_long bytes h.0))

-- so is a lattice file that is too long
pub lattice_too_large : (text : List ℕ) (refusal : Refusal) → (65536 < length text) × (refusal ≡ BadLattice lattice.TooMany) → IsLatticeRefused text refusal
lattice_too_large text refusal h = subst (IsLatticeRefused text) (sym h.1) ((λ (same : lattice.TooMany ≡ lattice.Memory). cc), is_first_long h.0)

-- so is a text of `entail` that is too long
pub text_too_large : (names : List (List ℕ)) (judgement text : List ℕ) (refusal : Refusal) → (1048576 < length text) × (refusal ≡ TextTooLarge) → IsEntailRefused names judgement text refusal
text_too_large names judgement text refusal h = subst (IsEntailRefused names judgement text) (sym h.1) h.0

-- what is refused by the first rule is so by the second
some_with : (P Q : List ℕ → Type 0) (content : Option (List ℕ)) → ((bytes : List ℕ) → P bytes → Q bytes) → IfSome content P → IfSome content Q
some_with P Q None h k = tt
some_with P Q (Some bytes) h k = h bytes k

pub stops_with : (P Q : List ℕ → Refusal → Type 0) (content : Contents) (faults faults' : List ℕ → ℕ) (name : List ℕ) (stop : Stop)
    → ((bytes : List ℕ) (refusal : Refusal) → P bytes refusal → Q bytes refusal) → StopsAt P content faults faults' name stop → StopsAt Q content faults faults' name stop
stops_with P Q content faults faults' name (Refused refusal) h k = some_with (λ bytes. P bytes refusal) (λ bytes. Q bytes refusal) (content name) (λ bytes. h bytes refusal) k
stops_with P Q content faults faults' name (NoRead unread) h k = k
stops_with P Q content faults faults' name NoMemory h k = tt

-- what refuses the object that bytes are read as refuses the bytes
pub refused_object : (signatures : List Signature) (bytes : List ℕ) (object : ReadObject) (why : NoText) → IsReadAs bytes object
    → IsNoText (IsObjectRefused object (ends_of object signatures)) why → IsNoText (IsRefused signatures bytes) why
refused_object signatures bytes object (RefusedText refusal) read h = of_object object refusal read h
refused_object signatures bytes object NoTextMemory read h = tt

pub refused_read : (signatures : List Signature) (bytes : List ℕ) (object : ReadObject) {X : Type 0} (result : Result X NoText) → IsReadAs bytes object
    → IfErr result (IsNoText (IsObjectRefused object (ends_of object signatures))) → IfErr result (IsNoText (IsRefused signatures bytes))
refused_read signatures bytes object (Ok x) read h = tt
refused_read signatures bytes object (Err why) read h = refused_object signatures bytes object why read h
