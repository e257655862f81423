-- Tables, entry by entry.
use Rattle.std.proofs.Common.{◌≡◌, ℕ, suc, ◌+◌, ◌*◌, ◌<◌, ◌≤◌, ◌^◌, ◌==◌, inl, inr, Option, Some, None, List, [], ◌∷◌, ◌++◌, All, IfSome, drop, length, get_or, length-append, below_more, refl, sym, ap, subst, ◌∙◌, arith, add-one, append_assoc}
use Rattle.std.specs.Option.{option_map, option_and_then}
use Rattle.std.proofs.Math.ListN.{get_or-append}
use Rattle.std.proofs.Math.Seq.{drop-cons, get_or-append_seam}
use Rattle.std.proofs.lemmas.List.Elements.{All-nil, All-same}
use Rattle.rt_elf.specs.Parts.{Parts as Object}
use Rattle.rt_elf.specs.declared.reloc.Reloc.{Reloc}
use Rattle.rt_elf.specs.Object.{IsLinkable}
use Rattle.rt_link.specs.declared.place.Place.{Place}
use Rattle.rt_link.specs.declared.pointers.Pointer.{Pointer}
use Rattle.rt_link.specs.Links.{pointer_of}
use Rattle.rt_link.specs.Pointers.{pointer_at}
use Rattle.rt_link.proofs.Naming.{pointer_about}
use Rattle.rt_control.specs.declared.table.Reading.{Reading}
use Rattle.rt_control.specs.Runs.{at}
use Rattle.rt_control.specs.Tables.{pointer_of_place, entry_place, reading_in, IsEntry, IsEnd, IsTable, AreEntriesOf, MayJumpTo, entry_target, entry_targets}
use Rattle.rt_link.proofs.Held.{place-same}

-- Tables.

-- some first entries of a table, up to a place
pub record IsTableTo (object : Object) (start place : Place) (entries : List Pointer) : Type 0 where
  pub section : place.section ≡ start.section
  pub offset : place.offset ≡ start.offset + 4 * length entries
  pub fits : place.offset < 2 ^ 32
  pub each : (i : ℕ) (d : Pointer) → i < length entries → IsEntry object (entry_place start i) (i == 0) (get_or entries i d)
  pub within : (i : ℕ) → i < length entries → (entry_place start i).offset < 2 ^ 32

place_is : (object : Object) (start place : Place) (entries : List Pointer) → IsTableTo object start place entries → place ≡ entry_place start (length entries)
place_is object start place entries to = place-same place.section start.section place.offset (start.offset + 4 * length entries) to.section to.offset

pub none_yet : (object : Object) (start : Place) → start.offset < 2 ^ 32 → IsTableTo object start start []
none_yet object start fits = record {
  section = refl;
  offset = omega arith;
  fits = fits;
  each = λ i d lt. absurd (omega arith);
  within = λ i lt. absurd (omega arith);
}

-- with one more there are those before it, and it
all_more : (P : ℕ → Pointer → Type 0) (entries : List Pointer) (entry : Pointer) → ((i : ℕ) (d : Pointer) → i < length entries → P i (get_or entries i d)) → P (length entries) entry
    → (i : ℕ) (d : Pointer) → i < length (entries ++ entry ∷ []) → P i (get_or (entries ++ entry ∷ []) i d)
all_more P entries entry h k i d lt =
    let count : length (entries ++ entry ∷ []) ≡ length entries + 1 = length-append entries (entry ∷ []) in
    let more : i < length entries + 1 = omega arith in
    below_more (λ (n : ℕ). P n (get_or (entries ++ entry ∷ []) n d)) (length entries)
    (λ n less. subst (λ (x : Pointer). P n x) (sym (get_or-append entries (entry ∷ []) d n less)) (h n d less))
    (subst (λ (x : Pointer). P (length entries) x) (sym (get_or-append_seam entries entry [] d)) k) i more

pub with_entry : (object : Object) (start place : Place) (entries : List Pointer) (entry : Pointer) → IsTableTo object start place entries → IsEntry object place (length entries == 0) entry
    → (i : ℕ) (d : Pointer) → i < length (entries ++ entry ∷ []) → IsEntry object (entry_place start i) (i == 0) (get_or (entries ++ entry ∷ []) i d)
with_entry object start place entries entry to is =
    all_more (λ (i : ℕ) (x : Pointer). IsEntry object (entry_place start i) (i == 0) x) entries entry to.each
    (subst (λ (p : Place). IsEntry object p (length entries == 0) entry) (place_is object start place entries to) is)

pub with_within : (object : Object) (start place : Place) (entries : List Pointer) (entry : Pointer) → IsTableTo object start place entries
    → (i : ℕ) → i < length (entries ++ entry ∷ []) → (entry_place start i).offset < 2 ^ 32
with_within object start place entries entry to i lt =
    all_more (λ (n : ℕ) (x : Pointer). (entry_place start n).offset < 2 ^ 32) entries entry (λ n d less. to.within n less)
    (let e = to.offset in let f = to.fits in omega arith) i entry lt

count_more : (entries : List Pointer) (entry : Pointer) → length (entries ++ entry ∷ []) ≡ length entries + 1
count_more entries entry = length-append entries (entry ∷ [])

pub one_more : (object : Object) (start place : Place) (entries : List Pointer) (entry : Pointer) (offset : ℕ) → IsTableTo object start place entries → IsEntry object place (length entries == 0) entry
    → offset ≡ place.offset + 4 → offset < 2 ^ 32 → IsTableTo object start (at place.section offset) (entries ++ entry ∷ [])
one_more object start place entries entry offset to is e fits = record {
  section = to.section;
  offset = let count = count_more entries entry in let f = to.offset in omega arith;
  fits = fits;
  each = with_entry object start place entries entry to is;
  within = with_within object start place entries entry to;
}

-- a table that ends past the last offset
pub at_last : (object : Object) (start place : Place) (entries : List Pointer) (entry : Pointer) → IsTableTo object start place entries → IsEntry object place (length entries == 0) entry
    → 2 ^ 32 ≤ place.offset + 4 → IsTable object start (entries ++ entry ∷ [])
at_last object start place entries entry to is past = record {
  each = with_entry object start place entries entry to is;
  within = with_within object start place entries entry to;
  ends = inl (let count = count_more entries entry in let f = to.offset in omega arith);
}

-- or before a place
pub at_end : (object : Object) (start place : Place) (entries : List Pointer) → IsTableTo object start place entries → IsEnd object place (length entries == 0) → IsTable object start entries
at_end object start place entries to end = record {
  each = to.each;
  within = to.within;
  ends = inr (subst (λ (p : Place). IsEnd object p (length entries == 0)) (place_is object start place entries to) end);
}

-- Where entries lead.

-- the places of some entries, and then those of the others
abbrev pub targets_after : Object → List Place → List Pointer → Option (List Place)
targets_after object places entries = option_map (λ (others : List Place). places ++ others) (entry_targets object entries)

cons_after : (places : List Place) (place : Place) (others : Option (List Place))
    → option_map (λ (later : List Place). places ++ later) (option_map (λ (later : List Place). place ∷ later) others) ≡ option_map (λ (later : List Place). (places ++ place ∷ []) ++ later) others
cons_after places place None = refl
cons_after places place (Some later) = ap (λ (all : List Place). Some all) (sym (append_assoc places (place ∷ []) later))

-- an entry that leads to code
pub targets-next : (object : Object) (places : List Place) (entries : List Pointer) (i : ℕ) (d : Pointer) (place : Place) → i < length entries → entry_target object (get_or entries i d) ≡ Some place
    → targets_after object places (drop i entries) ≡ targets_after object (places ++ place ∷ []) (drop (i + 1) entries)
targets-next object places entries i d place lt e =
    ap (λ (es : List Pointer). targets_after object places es) (drop-cons entries i d lt)
    ∙ ap (λ (first : Option Place). option_map (λ (others : List Place). places ++ others)
    (option_and_then (λ (p : Place). option_map (λ (later : List Place). p ∷ later) (entry_targets object (drop (suc i) entries))) first)) e
    ∙ cons_after places place (entry_targets object (drop (suc i) entries))
    ∙ ap (λ (n : ℕ). targets_after object (places ++ place ∷ []) (drop n entries)) (sym (add-one i))

-- one that doesn't
pub targets-none : (object : Object) (places : List Place) (entries : List Pointer) (i : ℕ) (d : Pointer) → i < length entries → entry_target object (get_or entries i d) ≡ None
    → targets_after object places (drop i entries) ≡ None
targets-none object places entries i d lt e =
    ap (λ (es : List Pointer). targets_after object places es) (drop-cons entries i d lt)
    ∙ ap (λ (first : Option Place). option_map (λ (others : List Place). places ++ others)
    (option_and_then (λ (p : Place). option_map (λ (later : List Place). p ∷ later) (entry_targets object (drop (suc i) entries))) first)) e

option_map-same : (places : Option (List Place)) → option_map (λ (others : List Place). [] ++ others) places ≡ places
option_map-same None = refl
option_map-same (Some places) = refl

pub targets-begin : (object : Object) (entries : List Pointer) → targets_after object [] entries ≡ entry_targets object entries
targets-begin object entries = option_map-same (entry_targets object entries)

-- Symbols.

-- what a pointer leads to is about a symbol of the object
abbrev IsKnownPointer : Object → Pointer → Type 0
IsKnownPointer object entry = entry.symbol < length object.symbols

known_of : (object : Object) (found : Option Reloc) → IfSome found (λ (reloc : Reloc). reloc.symbol < length object.symbols) → IfSome (option_map pointer_of found) (IsKnownPointer object)
known_of object None h = tt
known_of object (Some reloc) h = h

pointer-known : (object : Object) (place : Place) → IsLinkable object → IfSome (pointer_of_place object place) (IsKnownPointer object)
pointer-known object place linkable = known_of object (pointer_at object place) (pointer_about object place linkable)

table-known : (object : Object) (start : Place) (entries : List Pointer) → IsLinkable object → IsTable object start entries → All (IsKnownPointer object) entries
table-known object start entries linkable table i d lt =
    subst (λ (found : Option Pointer). IfSome found (IsKnownPointer object)) (table.each i d lt).stands (pointer-known object (entry_place start i) linkable)

none-known : (object : Object) (entries : List Pointer) → entries ≡ [] → All (IsKnownPointer object) entries
none-known object entries e = All-same (IsKnownPointer object) entries [] e (All-nil (IsKnownPointer object))

reading-known : (object : Object) (reading : Option Reading) (entries : List Pointer) → IsLinkable object → AreEntriesOf object reading entries → All (IsKnownPointer object) entries
reading-known object None entries linkable e = none-known object entries e
reading-known object (Some reading) entries linkable table = table-known object _ entries linkable table

pub jump-known : (object : Object) (place : Place) (register : Option ℕ) (entries : List Pointer) → IsLinkable object → MayJumpTo object place register entries
    → All (λ (entry : Pointer). entry.symbol < length object.symbols) entries
jump-known object place None entries linkable e = none-known object entries e
jump-known object place (Some register) entries linkable jump = reading-known object (reading_in register jump.steps) entries linkable jump.are_entries
