-- How a command stops, and what it writes.
use Rattle.std.proofs.Common.{Bor, ◌≡◌, ◌∙◌, ℕ, zero, suc, ◌≤◌, List, [], ◌∷◌, Option, Some, None, ap, arith, inl, inr, refl, subst, sym, take}
use Rattle.std.specs.Prelude.{IfSome}
use Rattle.rt_base.specs.Outside.{Rose}
use Rattle.rt_lattice.specs.Lattices.{NamedOrder}
use Rattle.rt_sigs.specs.Signatures.{Signature}
use Rattle.rt_run.specs.declared.refusal.Refusal.{Refusal}
use Rattle.rt_run.specs.declared.stop.Stop.{Stop}
use Rattle.rt_run.specs.declared.stop.Stop.TheVariants.{Refused, NoRead, NoMemory}
use Rattle.rt_run.specs.declared.no_text.NoText.{NoText}
use Rattle.rt_run.specs.declared.no_text.NoText.TheVariants.{Refused as RefusedText, Memory as NoTextMemory}
use Rattle.rt_run.specs.Errors.{read_line, refusal_line}
use Rattle.rt_run.specs.Inside.NoTexts.{IsNoText}
use Rattle.rt_run.specs.Words.{Command, Report, Entail, Step, OfLattice, OfSignatures, OfInput, lattice_of, signatures_of, inputs_of}
use Rattle.rt_run.specs.Inputs.{Contents, with_first, IsLatticeFor, AreSignaturesIn, AreSignaturesFor, IsLatticeRefused, IsSignaturesRefused}
use Rattle.rt_run.specs.Status.{AreAccepted, AreInputs, ComesTo, ComesToInput, Gives, IsInputRefused, IsRefusedBy, of_lattice, of_signatures, of_input, IsStopFor, IsTextFor, Stops, StopsAt, StopsFor}

-- a count that rose later rose from before
rose_from : (a b c : ℕ) → a ≤ b → Rose b c → Rose a c
rose_from a b c le (inl less) = inl (omega (arith, le, less))
rose_from a b c le (inr end) = inr end

-- what stops later, when no content has changed and faults only rose, stops
pub stops_from : (P : List ℕ → Refusal → Type 0) (content content' : Contents) (before faults faults' : List ℕ → ℕ) (name : List ℕ) (stop : Stop)
    → ((n : List ℕ) → content' n ≡ content n) → ((n : List ℕ) → before n ≤ faults n) → StopsAt P content' faults faults' name stop → StopsAt P content before faults' name stop
stops_from P content content' before faults faults' name (Refused refusal) same counted h = subst (λ o. IfSome o (λ (bytes : List ℕ). P bytes refusal)) (same name) h
stops_from P content content' before faults faults' name (NoRead unread) same counted h = (h.0, rose_from (before name) (faults name) (faults' name) (counted name) h.1)
stops_from P content content' before faults faults' name NoMemory same counted h = tt

-- Each file stops the command.

pub stops_at_lattice : (command : Command) (content : Contents) (faults faults' : List ℕ → ℕ) (name : Option (List ℕ)) (stop : Stop) → lattice_of command ≡ name
    → StopsFor IsLatticeRefused content faults faults' name stop → Stops command content faults faults' stop
stops_at_lattice command content faults faults' None stop named h = subst (Stops command content faults faults') (sym h) tt
stops_at_lattice command content faults faults' (Some name) (Refused refusal) named h = of_lattice name named h
stops_at_lattice command content faults faults' (Some name) (NoRead unread) named h =
    (OfLattice, named ∙ ap Some (sym h.0), subst (λ n. Rose (faults n) (faults' n)) (sym h.0) h.1)
stops_at_lattice command content faults faults' (Some name) NoMemory named h = tt

pub stops_at_signatures : (command : Command) (content content' : Contents) (before faults faults' : List ℕ → ℕ) (name : Option (List ℕ)) (order : NamedOrder) (names : List (List ℕ)) (stop : Stop)
    → ((n : List ℕ) → content' n ≡ content n) → ((n : List ℕ) → before n ≤ faults n) → IsLatticeFor content (lattice_of command) order → signatures_of command ≡ name → names ≡ order.names
    → StopsFor (IsSignaturesRefused names) content' faults faults' name stop → Stops command content before faults' stop
stops_at_signatures command content content' before faults faults' None order names stop same counted lattice named known h = subst (Stops command content before faults') (sym h) tt
stops_at_signatures command content content' before faults faults' (Some name) order names stop same counted lattice named known h =
    by stop (stops_from (IsSignaturesRefused order.names) content content' before faults faults' name stop same counted (subst (λ (ns : List (List ℕ)). StopsAt (IsSignaturesRefused ns) content' faults faults' name stop) known h))
  where
    by : (stop : Stop) → StopsAt (IsSignaturesRefused order.names) content before faults' name stop → Stops command content before faults' stop
    by (Refused refusal) h = of_signatures name order lattice named h
    by (NoRead unread) h = (OfSignatures, ((order, lattice), named ∙ ap Some (sym h.0)), subst (λ n. Rose (before n) (faults' n)) (sym h.0) h.1)
    by NoMemory h = tt

-- Nothing is refused before a command has read a file of its own.
none_refused : (command : Command) (order : NamedOrder) (signatures : List Signature) (refusal : Refusal) → IsInputRefused command order signatures [] refusal → ⊥
none_refused (Report told options object) order signatures refusal h = h
none_refused (Entail lattice file judgement) order signatures refusal h = h

abbrev no_files : List (List ℕ)
no_files = []

take_none : (k : ℕ) → take k no_files ≡ no_files
take_none zero = refl
take_none (suc k) = refl

none_accepted : (command : Command) (order : NamedOrder) (signatures : List Signature) → AreAccepted command order signatures []
none_accepted command order signatures k refusal h =
    none_refused command order signatures refusal (subst (λ (inputs : List (List ℕ)). IsInputRefused command order signatures inputs refusal) (take_none k) h)

-- A command that has one file of its own comes to it.
comes_to_one : (command : Command) (content : Contents) (order : NamedOrder) (signatures : List Signature) (name : List ℕ) → inputs_of command ≡ name ∷ []
    → AreInputs command content order signatures → ComesToInput command content 0 name
comes_to_one command content order signatures name one inputs = record {
  order = order;
  signatures = signatures;
  are_inputs = inputs;
  before = [];
  after = [];
  are_names = one;
  is_number = refl;
  accepted = none_accepted command order signatures;
}

-- what is so of the content of one name is so of the contents of that name alone
one_told : (found : Option (List ℕ)) (P : List (List ℕ) → Type 0) → IfSome found (λ (bytes : List ℕ). P (bytes ∷ [])) → IfSome (with_first found (Some [])) P
one_told None P h = tt
one_told (Some bytes) P h = h

-- its file is refused
refused_one : (command : Command) (content : Contents) (order : NamedOrder) (signatures : List Signature) (name : List ℕ) (refusal : Refusal) → inputs_of command ≡ name ∷ []
    → AreInputs command content order signatures → IfSome (content name) (λ (bytes : List ℕ). IsInputRefused command order signatures (bytes ∷ []) refusal)
    → IsRefusedBy command content refusal
unfolding comes_to_one
refused_one command content order signatures name refusal one inputs h =
    of_input 0 name (record {
      comes = comes_to_one command content order signatures name one inputs;
      refused = one_told (content name) (λ (inputs : List (List ℕ)). IsInputRefused command order signatures inputs refusal) h;
    })

pub stops_at_input : (command : Command) (content content' : Contents) (before faults faults' : List ℕ → ℕ) (order : NamedOrder) (signatures : List Signature) (name : List ℕ) (stop : Stop)
    → inputs_of command ≡ name ∷ [] → ((n : List ℕ) → content' n ≡ content n) → ((n : List ℕ) → before n ≤ faults n) → AreInputs command content order signatures
    → StopsAt (λ bytes. IsInputRefused command order signatures (bytes ∷ [])) content' faults faults' name stop → Stops command content before faults' stop
stops_at_input command content content' before faults faults' order signatures name stop one same counted inputs h =
    by stop (stops_from (λ bytes. IsInputRefused command order signatures (bytes ∷ [])) content content' before faults faults' name stop same counted h)
  where
    by : (stop : Stop) → StopsAt (λ bytes. IsInputRefused command order signatures (bytes ∷ [])) content before faults' name stop → Stops command content before faults' stop
    by (Refused refusal) h = refused_one command content order signatures name refusal one inputs h
    by (NoRead unread) h = (
      OfInput 0,
      subst (ComesToInput command content 0) (sym h.0) (comes_to_one command content order signatures name one inputs),
      subst (λ n. Rose (before n) (faults' n)) (sym h.0) h.1,
    )
    by NoMemory h = tt

-- The signatures are those of before, when no content has changed.
pub signatures_from : (content content' : Contents) (names : List (List ℕ)) (name : Option (List ℕ)) (signatures : List Signature) → ((n : List ℕ) → content' n ≡ content n)
    → AreSignaturesFor content' names name signatures → AreSignaturesFor content names name signatures
signatures_from content content' names None signatures same h = h
signatures_from content content' names (Some name) signatures same h = subst (λ o. IfSome o (λ (text : List ℕ). AreSignaturesIn names text signatures)) (same name) h

pub are_inputs : (command : Command) (content content' : Contents) (order : NamedOrder) (names : List (List ℕ)) (signatures : List Signature) → ((n : List ℕ) → content' n ≡ content n) → names ≡ order.names
    → IsLatticeFor content (lattice_of command) order → AreSignaturesFor content' names (signatures_of command) signatures → AreInputs command content order signatures
are_inputs command content content' order names signatures same known lattice signed = record {
  is_lattice = lattice;
  are_signatures = signatures_from content content' order.names (signatures_of command) signatures same (subst (λ (ns : List (List ℕ)). AreSignaturesFor content' ns (signatures_of command) signatures) known signed);
}

some_found : (content : Option (List ℕ)) (P : List ℕ → Type 0) (found shown : List ℕ) → IfSome content (λ (b : List ℕ). found ≡ b) → shown ≡ found → P shown → IfSome content P
some_found None P found shown told same h = tt
some_found (Some bytes) P found shown told same h = subst P (same ∙ told) h

-- There is no text of its file.
pub stops_for : (command : Command) (content content' : Contents) (faults faults' : List ℕ → ℕ) (order : NamedOrder) (signatures : List Signature) (name found shown : List ℕ) (why : NoText) (stop : Stop)
    → inputs_of command ≡ name ∷ [] → ((n : List ℕ) → content' n ≡ content n) → AreInputs command content order signatures → IfSome (content' name) (λ (bytes : List ℕ). found ≡ bytes) → shown ≡ found
    → IsNoText (IsInputRefused command order signatures (shown ∷ [])) why → IsStopFor stop why → Stops command content faults faults' stop
stops_for command content content' faults faults' order signatures name found shown (RefusedText refusal) stop one same inputs told is refused is_stop =
    subst (Stops command content faults faults') (sym is_stop) (refused_one command content order signatures name refusal one inputs
    (some_found (content name) (λ (bytes : List ℕ). IsInputRefused command order signatures (bytes ∷ []) refusal) found shown
    (subst (λ o. IfSome o (λ (bytes : List ℕ). found ≡ bytes)) (same name) told) is refused))
stops_for command content content' faults faults' order signatures name found shown NoTextMemory stop one same inputs told is refused is_stop = subst (Stops command content faults faults') (sym is_stop) tt

-- There is a text of its file.
pub gives_for : (command : Command) (content content' : Contents) (order : NamedOrder) (signatures : List Signature) (name found shown text : List ℕ)
    → inputs_of command ≡ name ∷ [] → ((n : List ℕ) → content' n ≡ content n) → AreInputs command content order signatures → IfSome (content' name) (λ (bytes : List ℕ). found ≡ bytes) → shown ≡ found
    → IsTextFor command order signatures (shown ∷ []) text → Gives command content text
gives_for command content content' order signatures name found shown text one same inputs told is is_text = record {
  order = order;
  signatures = signatures;
  are_inputs = inputs;
  text = text;
  is_text =
      rw one (one_told (content name) (λ (given : List (List ℕ)). IsTextFor command order signatures given text)
      (some_found (content name) (λ (bytes : List ℕ). IsTextFor command order signatures (bytes ∷ []) text) found shown
      (subst (λ o. IfSome o (λ (bytes : List ℕ). found ≡ bytes)) (same name) told) is is_text));
  gained = refl;
}

-- What is told of a command that stopped; `Puts` says what err has of a line.

pub unread_told : (asked : Option Command) (command : Command) (content : Contents) (faults faults' : List ℕ → ℕ) (stop : Stop) (unread : Bor (List ℕ)) (Puts : List ℕ → Type 0)
    → asked ≡ Some command → stop ≡ NoRead unread → Stops command content faults faults' stop → Puts (read_line unread.now)
    → IfSome asked (λ (command : Command). (step : Step) × (name : List ℕ) × ComesTo command content step name × Rose (faults name) (faults' name) × Puts (read_line name))
unread_told asked command content faults faults' stop unread Puts is is_stop stops told =
    let (step, comes, rose) = subst (Stops command content faults faults') is_stop stops in
    subst (λ o. IfSome o (λ (command : Command). (step : Step) × (name : List ℕ) × ComesTo command content step name × Rose (faults name) (faults' name) × Puts (read_line name))) (sym is)
    (step, unread.now, comes, rose, told)

pub refused_told : (asked : Option Command) (command : Command) (content : Contents) (faults faults' : List ℕ → ℕ) (stop : Stop) (refusal : Refusal) (Puts : List ℕ → Type 0)
    → asked ≡ Some command → stop ≡ Refused refusal → Stops command content faults faults' stop → Puts (refusal_line refusal)
    → IfSome asked (λ (command : Command). (refusal : Refusal) × IsRefusedBy command content refusal × Puts (refusal_line refusal))
refused_told asked command content faults faults' stop refusal Puts is is_stop stops told =
    let refused : IsRefusedBy command content refusal = subst (Stops command content faults faults') is_stop stops in
    subst (λ o. IfSome o (λ (command : Command). (refusal : Refusal) × IsRefusedBy command content refusal × Puts (refusal_line refusal))) (sym is) (refusal, refused, told)
