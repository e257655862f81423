-- What links say of the object that they are of.
use Rattle.std.proofs.Common.{◌≡◌, ℕ, ℤ, ◌<◌, Bool, true, Option, Some, None, IfSome, List, All, length, find, take, refl, subst}
use Rattle.std.specs.Option.{option_map, option_and_then}
use Rattle.std.proofs.lemmas.Bool.{leb-true, and_parts, not-false}
use Rattle.std.proofs.lemmas.List.Elements.{All-filter, filter_passes}
use Rattle.rt_elf.specs.declared.object.Object.{Object}
use Rattle.rt_elf.specs.declared.reloc.Reloc.{Reloc}
use Rattle.rt_elf.specs.declared.symbol.Symbol.{Symbol}
use Rattle.rt_elf.specs.Object.{HasWord, IsLinkable, IsOfObject}
use Rattle.rt_elf.proofs.Booleans.{and-rest_false, eqb-is, fault_if-none, none_at}
use Rattle.rt_link.specs.declared.kind.Kind.{Kind}
use Rattle.rt_link.specs.declared.kind.Kind.TheVariants.{Passed, Jump, Call, PcrelHigh, High, Low, PcrelLow}
use Rattle.rt_link.specs.declared.link.Link.TheVariants as link
use Rattle.rt_link.specs.declared.place.Place.{Place}
use Rattle.rt_link.specs.Checks.{link_fault, place_fault, places_fault, partners_fault, partner_fault, reloc_by, no_reloc, has_room, has_pair}
use Rattle.rt_link.specs.Effects.{is_of_code, code_relocs, place_of, is_head, head_at, is_high, high_at, low_of, meaning, link_of, link_at, symbol_place}
use Rattle.rt_link.specs.Kinds.{kind_of, has_effect, is_call}
use Rattle.rt_link.specs.Laws.{IsFarCall, IsAboutSymbol}
use Rattle.rt_link.specs.Links.{IsOfCode}
use Rattle.rt_link.proofs.Held.{find-found, is_place-same}
use Rattle.rt_base.proofs.Entries.{then_of-none}

-- a fact that rests on no value holds of each
if_some-always : {X : Type 0} {P : Type 0} (o : Option X) → P → IfSome o (λ x. P)
if_some-always None p = tt
if_some-always (Some x) p = p

-- what a search finds among relocations of code is one
found_of_code : (object : Object) (relocs : List Reloc) (test : Reloc → Bool) (reloc : Reloc) → find test relocs ≡ Some reloc → All (IsOfCode object) relocs → IsOfCode object reloc
found_of_code object relocs test reloc e known =
    let found = find-found test relocs reloc no_reloc e in
    subst (λ (r : Reloc). IsOfCode object r) found.2 (known found.0 no_reloc found.1)

-- each relocation of code is about a symbol
pub code-known : (object : Object) → IsLinkable object → All (IsOfCode object) (code_relocs object)
code-known object linkable i d h =
    (filter_passes (is_of_code object) object.relocs i d h, (All-filter (is_of_code object) (IsOfObject object) object.relocs linkable.relocs i d h).1)

-- The symbols of links.

low_about : (object : Object) (relocs : List Reloc) (place : Place) (high : Option Reloc) → high_at relocs place ≡ high → All (IsOfCode object) relocs
    → IsAboutSymbol object (option_map low_of high)
low_about object relocs place None e known = tt
low_about object relocs place (Some reloc) e known = (found_of_code object relocs (is_high place) reloc e known).1

meaning_about : (object : Object) (relocs : List Reloc) (reloc : Reloc) (kind : Option Kind) → reloc.symbol < length object.symbols → All (IsOfCode object) relocs
    → IsAboutSymbol object (meaning object.symbols relocs kind reloc)
meaning_about object relocs reloc None h known = tt
meaning_about object relocs reloc (Some Passed) h known = tt
meaning_about object relocs reloc (Some Jump) h known = h
meaning_about object relocs reloc (Some Call) h known = h
meaning_about object relocs reloc (Some PcrelHigh) h known = h
meaning_about object relocs reloc (Some High) h known = h
meaning_about object relocs reloc (Some Low) h known = h
meaning_about object relocs reloc (Some PcrelLow) h known = let place = symbol_place object.symbols reloc.symbol in
    low_about object relocs place (high_at relocs place) refl known

head_about : (object : Object) (relocs : List Reloc) (place : Place) (head : Option Reloc) → head_at relocs place ≡ head → All (IsOfCode object) relocs
    → IsAboutSymbol object (option_and_then (λ reloc. meaning object.symbols relocs (kind_of reloc.kind) reloc) head)
head_about object relocs place None e known = tt
head_about object relocs place (Some reloc) e known =
    meaning_about object relocs reloc (kind_of reloc.kind) (found_of_code object relocs (is_head place) reloc e known).1 known

pub of_about : (object : Object) (relocs : List Reloc) (place : Place) → All (IsOfCode object) relocs → IsAboutSymbol object (link_of object.symbols relocs place)
of_about object relocs place known = head_about object relocs place (head_at relocs place) refl known

-- a link at a place is about a symbol of the object
pub link_about : (object : Object) (place : Place) → IsLinkable object → IsAboutSymbol object (link_at object place)
link_about object place linkable = of_about object (code_relocs object) place (code-known object linkable)

-- The places of links.

-- a relocation with an effect that no check refuses is at a word of its section
room-there : (object : Object) (earlier : List Reloc) (reloc : Reloc) → place_fault object earlier reloc ≡ None → has_effect (kind_of reloc.kind) ≡ true → has_room object reloc 4 ≡ true
unfolding place_fault
room-there object earlier reloc none effect =
    not-false _ (and-rest_false _ _ (fault_if-none _ _ (then_of-none _ _ (then_of-none _ _ none).1).0) effect)

reloc_word : (object : Object) (reloc : Reloc) → IsOfCode object reloc → has_room object reloc 4 ≡ true → HasWord object reloc.section reloc.offset
reloc_word object reloc known room =
    let parts = and_parts _ _ room in
    record { is_code = known.0; is_aligned = eqb-is _ _ parts.0; is_within = leb-true _ _ parts.1 }

head_word : (object : Object) (relocs : List Reloc) (place : Place) (head : Option Reloc) → head_at relocs place ≡ head → All (IsOfCode object) relocs → places_fault object relocs ≡ None
    → IfSome (option_and_then (λ reloc. meaning object.symbols relocs (kind_of reloc.kind) reloc) head) (λ l. HasWord object place.section place.offset)
head_word object relocs place None e known none = tt
head_word object relocs place (Some reloc) e known none =
    let found = find-found (is_head place) relocs reloc no_reloc e in
    let fault : place_fault object (take found.0 relocs) (reloc_by relocs found.0) ≡ None =
    none_at (λ (i : ℕ). place_fault object (take i relocs) (reloc_by relocs i)) (length relocs) found.0 none found.1 in
    let free : place_fault object (take found.0 relocs) reloc ≡ None = subst (λ (r : Reloc). place_fault object (take found.0 relocs) r ≡ None) found.2 fault in
    let both = and_parts _ _ found.3 in
    let same : place_of reloc ≡ place = is_place-same (place_of reloc) place both.1 in
    let word : HasWord object place.section place.offset =
    subst (λ (p : Place). HasWord object p.section p.offset) same
    (reloc_word object reloc (found_of_code object relocs (is_head place) reloc e known) (room-there object (take found.0 relocs) reloc free both.0)) in
    if_some-always (meaning object.symbols relocs (kind_of reloc.kind) reloc) word

-- where no check fails, a link stands at a word of a section of code
pub link_word : (object : Object) (place : Place) → IsLinkable object → link_fault object ≡ None
    → IfSome (link_at object place) (λ l. HasWord object place.section place.offset)
link_word object place linkable none =
    head_word object (code_relocs object) place (head_at (code_relocs object) place) refl (code-known object linkable) (then_of-none _ _ none).0

-- The words of far calls.

low_is_no_pair : {A : Type 0} (high : Option Reloc) (symbol : ℕ) (addend : ℤ) → option_map low_of high ≡ Some (link.Pair symbol addend) → A
low_is_no_pair None symbol addend e = cc
low_is_no_pair (Some reloc) symbol addend e = cc

-- only a call means a pair
pair-is_call : (symbols : List Symbol) (relocs : List Reloc) (reloc : Reloc) (kind : Option Kind) (symbol : ℕ) (addend : ℤ)
    → meaning symbols relocs kind reloc ≡ Some (link.Pair symbol addend) → is_call kind ≡ true
pair-is_call symbols relocs reloc None symbol addend e = cc
pair-is_call symbols relocs reloc (Some Passed) symbol addend e = cc
pair-is_call symbols relocs reloc (Some Jump) symbol addend e = cc
pair-is_call symbols relocs reloc (Some Call) symbol addend e = refl
pair-is_call symbols relocs reloc (Some PcrelHigh) symbol addend e = cc
pair-is_call symbols relocs reloc (Some High) symbol addend e = cc
pair-is_call symbols relocs reloc (Some Low) symbol addend e = cc
pair-is_call symbols relocs reloc (Some PcrelLow) symbol addend e = low_is_no_pair (high_at relocs (symbol_place symbols reloc.symbol)) symbol addend e

-- a call that no check refuses is one of a pair
call-has_pair : (object : Object) (relocs : List Reloc) (reloc : Reloc) → partner_fault object relocs reloc ≡ None → is_call (kind_of reloc.kind) ≡ true → has_pair object reloc ≡ true
unfolding partner_fault
call-has_pair object relocs reloc none call = not-false _ (and-rest_false _ _ (fault_if-none _ _ (then_of-none _ _ (then_of-none _ _ none).1).0) call)

-- a relocation at two words of a far call
reloc_far_call : (object : Object) (reloc : Reloc) → IsOfCode object reloc → has_pair object reloc ≡ true → IsFarCall object (place_of reloc)
reloc_far_call object reloc known pair =
    let parts = and_parts _ _ pair in
    let room = and_parts _ _ parts.0 in
    record {
      is_code = known.0;
      is_aligned = eqb-is _ _ room.0;
      is_within = leb-true _ _ room.1;
      are_words = parts.1;
    }

head_far_call : (object : Object) (relocs : List Reloc) (place : Place) (head : Option Reloc) (symbol : ℕ) (addend : ℤ) → head_at relocs place ≡ head → All (IsOfCode object) relocs → partners_fault object relocs ≡ None
    → option_and_then (λ reloc. meaning object.symbols relocs (kind_of reloc.kind) reloc) head ≡ Some (link.Pair symbol addend) → IsFarCall object place
head_far_call object relocs place None symbol addend e known none pair = cc
head_far_call object relocs place (Some reloc) symbol addend e known none pair =
    let found = find-found (is_head place) relocs reloc no_reloc e in
    let fault : partner_fault object relocs (reloc_by relocs found.0) ≡ None = none_at (λ (i : ℕ). partner_fault object relocs (reloc_by relocs i)) (length relocs) found.0 none found.1 in
    let free : partner_fault object relocs reloc ≡ None = subst (λ (r : Reloc). partner_fault object relocs r ≡ None) found.2 fault in
    let call = pair-is_call object.symbols relocs reloc (kind_of reloc.kind) symbol addend pair in
    let same : place_of reloc ≡ place = is_place-same (place_of reloc) place (and_parts _ _ found.3).1 in
    subst (λ (p : Place). IsFarCall object p) same (reloc_far_call object reloc (found_of_code object relocs (is_head place) reloc e known) (call-has_pair object relocs reloc free call))

-- a link of a far call stands at one
pub link_far_call : (object : Object) (place : Place) (symbol : ℕ) (addend : ℤ) → IsLinkable object → link_fault object ≡ None
    → link_at object place ≡ Some (link.Pair symbol addend) → IsFarCall object place
link_far_call object place symbol addend linkable none pair =
    head_far_call object (code_relocs object) place (head_at (code_relocs object) place) symbol addend refl (code-known object linkable) (then_of-none _ _ (then_of-none _ _ none).1).0 pair
