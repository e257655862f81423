-- Pointers that are held, and the places that are named.
use Rattle.std.proofs.Common.{◌≡◌, ◌↔◌, ℕ, zero, suc, ◌+◌, ◌<◌, Bool, true, false, ◌||◌, cond, inl, inr, is_some, Option, Some, None, IfSome, IsTrue, List, [], ◌∷◌, ◌++◌, find, take, length, get_or, if◌then◌else◌, refl, sym, ap, ◌∙◌, subst, arith}
use Rattle.std.specs.Option.{option_map, option_and_then, option_or}
use Rattle.std.specs.List.{list_any}
use Rattle.std.specs.Ordering.{is_eq}
use Rattle.std.specs.BTreeSet.{BTreeSet, contains}
use Rattle.std.proofs.lemmas.List.{take_more}
use Rattle.std.proofs.lemmas.List.Folds.{list_any-append}
use Rattle.std.proofs.lemmas.Bool.Decides.{nat_tests}
use Rattle.rt_elf.specs.declared.object.Object.{Object}
use Rattle.rt_elf.specs.declared.reloc.Reloc.{Reloc}
use Rattle.rt_elf.specs.declared.symbol.Symbol.{Symbol}
use Rattle.rt_elf.specs.Object.{IsLinkable, IsOfObject}
use Rattle.rt_link.specs.declared.heads.Heads.{Heads}
use Rattle.rt_link.specs.declared.link.Link.{Link}
use Rattle.rt_link.specs.declared.link.Link.TheVariants as link
use Rattle.rt_link.specs.declared.links.Links.{Links}
use Rattle.rt_link.specs.declared.place.Place.{Place}
use Rattle.rt_link.specs.declared.pointers.Pointer.{Pointer}
use Rattle.rt_link.specs.declared.pointers.Pointers.{Pointers}
use Rattle.rt_link.specs.Checks.{no_reloc, partners_fault}
use Rattle.rt_link.specs.Effects.{code_relocs, place_of, is_place, is_head, head_at, link_at, meaning, moved, symbol_place}
use Rattle.rt_link.specs.Kinds.{kind_of}
use Rattle.rt_link.specs.Links.{HoldAll, link_held, place_cmp, named_by, is_at, names, pointer_of, pointer_held, AreLinksOf}
use Rattle.rt_link.specs.Pointers.{is_address, is_pointer, pointer_at, IsNamed}
use Rattle.rt_link.proofs.Held.{find-found, find-more, is_place-same, link-held, link-some_at}
use Rattle.rt_base.proofs.Options.{option_or-none}
use Rattle.std.proofs.lemmas.Bool.{cases_Bool, and_parts, or_right}

-- Pointers.

-- one more relocation, which is no pointer
pub pointer-passed : (object : Object) (earlier : List Reloc) (reloc : Reloc) (place : Place) → is_address object reloc ≡ false
    → option_map pointer_of (find (is_pointer object place) (earlier ++ reloc ∷ [])) ≡ option_map pointer_of (find (is_pointer object place) earlier)
pointer-passed object earlier reloc place e =
    rw (find-more (is_pointer object place) earlier reloc, e, option_or-none (find (is_pointer object place) earlier)) refl

mapped-or : {X Y : Type 0} (f : X → Y) (o p : Option X) → option_map f (option_or o p) ≡ option_or (option_map f o) (option_map f p)
mapped-or f None p = refl
mapped-or f (Some x) p = refl

-- one more that is
pub pointer-more : (object : Object) (earlier : List Reloc) (reloc : Reloc) (place : Place) → is_address object reloc ≡ true
    → option_map pointer_of (find (is_pointer object place) (earlier ++ reloc ∷ []))
    ≡ option_or (option_map pointer_of (find (is_pointer object place) earlier)) (if is_place (place_of reloc) place then Some (pointer_of reloc) else None)
pointer-more object earlier reloc place e = elim (cases_Bool (is_place (place_of reloc) place)) [
  | inl same ↦ rw (find-more (is_pointer object place) earlier reloc, mapped-or pointer_of (find (is_pointer object place) earlier) _, e, same) refl
  | inr other ↦ rw (find-more (is_pointer object place) earlier reloc, mapped-or pointer_of (find (is_pointer object place) earlier) _, e, other) refl
]

-- the pointers of one more relocation of a list are held
pub pointers-added : (object : Object) (relocs : List Reloc) (n : ℕ) (old new : Pointers) (place : Place) (pointer : Pointer) → n < length relocs
    → is_address object (get_or relocs n no_reloc) ≡ true → place ≡ place_of (get_or relocs n no_reloc) → pointer ≡ pointer_of (get_or relocs n no_reloc)
    → ((q : Place) → pointer_held new q ≡ option_or (pointer_held old q) (if is_place place q then Some pointer else None))
    → ((q : Place) → pointer_held old q ≡ option_map pointer_of (find (is_pointer object q) (take n relocs)))
    → (q : Place) → pointer_held new q ≡ option_map pointer_of (find (is_pointer object q) (take (n + 1) relocs))
pointers-added object relocs n old new place pointer there address at is adds before q =
    rw (adds q, before q, at, is, take_more relocs n no_reloc there) (sym (pointer-more object (take n relocs) (get_or relocs n no_reloc) q address))

pub pointers-kept : (object : Object) (relocs : List Reloc) (n : ℕ) (pointers : Pointers) → n < length relocs
    → is_address object (get_or relocs n no_reloc) ≡ false
    → ((q : Place) → pointer_held pointers q ≡ option_map pointer_of (find (is_pointer object q) (take n relocs)))
    → (q : Place) → pointer_held pointers q ≡ option_map pointer_of (find (is_pointer object q) (take (n + 1) relocs))
pointers-kept object relocs n pointers there address before q =
    rw (before q, take_more relocs n no_reloc there) (sym (pointer-passed object (take n relocs) (get_or relocs n no_reloc) q address))

-- a pointer is about a symbol of the object
found_about : (object : Object) (place : Place) (pointer : Option Reloc) → pointer_at object place ≡ pointer → IsLinkable object
    → IfSome pointer (λ reloc. reloc.symbol < length object.symbols)
found_about object place None e linkable = tt
found_about object place (Some reloc) e linkable =
    let found = find-found (is_pointer object place) object.relocs reloc no_reloc e in
    (subst (λ (r : Reloc). IsOfObject object r) found.2 (linkable.relocs found.0 no_reloc found.1)).1

pub pointer_about : (object : Object) (place : Place) → IsLinkable object → IfSome (pointer_at object place) (λ reloc. reloc.symbol < length object.symbols)
pointer_about object place linkable = found_about object place (pointer_at object place) refl linkable

-- Named places.

pub is_place-self : (p : Place) → is_place p p ≡ true
is_place-self p = grind (arith, nat_tests)

pub cond-or : (a b : Bool) → cond a true b ≡ (b || (a || false))
cond-or true true = refl
cond-or true false = refl
cond-or false true = refl
cond-or false false = refl

-- the order of places finds those that are one
cmp-is_place : (p q : Place) → is_eq (place_cmp p q) ≡ is_place p q
cmp-is_place p q = grind (arith, nat_tests)

-- the places that one more relocation of a list names are held
pub named-added : (symbols : List Symbol) (heads : Heads) (relocs : List Reloc) (n : ℕ) (old new : BTreeSet Place) (place : Place) → n < length relocs
    → named_by symbols (link_held heads (place_of (get_or relocs n no_reloc))) ≡ Some place
    → ((q : Place) → contains place_cmp new q ≡ cond (is_eq (place_cmp place q)) true (contains place_cmp old q))
    → ((q : Place) → contains place_cmp old q ≡ list_any (names symbols heads q) (take n relocs))
    → (q : Place) → contains place_cmp new q ≡ list_any (names symbols heads q) (take (n + 1) relocs)
named-added symbols heads relocs n old new place there is adds before q =
    rw (adds q, before q, cmp-is_place place q, take_more relocs n no_reloc there, list_any-append (names symbols heads q) (take n relocs) (get_or relocs n no_reloc ∷ []), is)
    (cond-or (is_place place q) (list_any (names symbols heads q) (take n relocs)))

or-none : (b : Bool) → b ≡ (b || (false || false))
or-none true = refl
or-none false = refl

pub named-kept : (symbols : List Symbol) (heads : Heads) (relocs : List Reloc) (n : ℕ) (named : BTreeSet Place) → n < length relocs
    → named_by symbols (link_held heads (place_of (get_or relocs n no_reloc))) ≡ None
    → ((q : Place) → contains place_cmp named q ≡ list_any (names symbols heads q) (take n relocs))
    → (q : Place) → contains place_cmp named q ≡ list_any (names symbols heads q) (take (n + 1) relocs)
named-kept symbols heads relocs n named there is before q =
    rw (before q, take_more relocs n no_reloc there, list_any-append (names symbols heads q) (take n relocs) (get_or relocs n no_reloc ∷ []), is)
    (or-none (list_any (names symbols heads q) (take n relocs)))

-- an element of a list that passes a test, and the other way round
any-at : {X : Type 0} (test : X → Bool) (xs : List X) (i : ℕ) (d : X) → i < length xs → test (get_or xs i d) ≡ true → list_any test xs ≡ true
any-at test [] i d h e = absurd (omega arith)
any-at test (x ∷ xs) zero d h e = rw e refl
any-at test (x ∷ xs) (suc i) d h e = or_right (test x) (list_any test xs) (any-at test xs i d (omega arith) e)

any-found : {X : Type 0} (test : X → Bool) (xs : List X) → list_any test xs ≡ true → (x : X) × (test x ≡ true)
any-found test [] e = cc
any-found test (x ∷ xs) e = elim (cases_Bool (test x)) [
  | inl pass ↦ (x, pass)
  | inr fail ↦ any-found test xs (rw fail at e)
]

-- a link that names a place is the low bits of its address
link-names : (object : Object) (from place : Place) (link : Option Link) → link_at object from ≡ link → is_at (named_by object.symbols link) place ≡ true → IsNamed object place
link-names object from place None e at = cc
link-names object from place (Some (link.Target symbol addend)) e at = cc
link-names object from place (Some (link.Pair symbol addend)) e at = cc
link-names object from place (Some (link.High symbol addend)) e at = cc
link-names object from place (Some (link.Low symbol addend)) e at = record { from = from; symbol = symbol; addend = addend; is_low = e; there = is_place-same _ _ at }

-- a link stands at the place of a relocation
head-there : (symbols : List Symbol) (relocs : List Reloc) (place : Place) (l : Link) (head : Option Reloc) → head_at relocs place ≡ head
    → option_and_then (λ reloc. meaning symbols relocs (kind_of reloc.kind) reloc) head ≡ Some l
    → (i : ℕ) × (i < length relocs) × (place_of (get_or relocs i no_reloc) ≡ place)
head-there symbols relocs place l None e is = cc
head-there symbols relocs place l (Some reloc) e is =
    let found = find-found (is_head place) relocs reloc no_reloc e in
    (found.0, found.1, rw found.2 (is_place-same _ _ (and_parts _ _ found.3).1))

-- what is held for the places of relocations names those that are named
pub names-are_named : (object : Object) (heads : Heads) (place : Place) → HoldAll object.symbols (code_relocs object) heads
    → IsTrue (list_any (names object.symbols heads place) (code_relocs object)) ↔ IsNamed object place
names-are_named object heads place all = (
  λ any.
      let found = any-found (names object.symbols heads place) (code_relocs object) any in
      let from = place_of found.0 in
      let at : is_at (named_by object.symbols (link_at object from)) place ≡ true =
      subst (λ (l : Option Link). is_at (named_by object.symbols l) place ≡ true) (link-held object.symbols (code_relocs object) heads from all) found.1 in
      link-names object from place (link_at object from) refl at,
  λ named.
      let relocs = code_relocs object in
      let found = head-there object.symbols relocs named.from _ (head_at relocs named.from) refl named.is_low in
      let held : link_held heads named.from ≡ Some (link.Low named.symbol named.addend) = link-held object.symbols relocs heads named.from all ∙ named.is_low in
      let own = symbol_place object.symbols named.symbol in
      let at : is_at (Some (moved own.section own.offset named.addend)) place ≡ true =
      subst (λ (p : Place). is_place p place ≡ true) (sym named.there) (is_place-self place) in
      let passes : names object.symbols heads place (get_or relocs found.0 no_reloc) ≡ true = rw (found.2, held) at in
      any-at (names object.symbols heads place) relocs found.0 no_reloc found.1 passes,
)

-- the links of all heads, pointers and named places are the object's
pub are_links : (object : Object) (links : Links) → HoldAll object.symbols (code_relocs object) links.heads → partners_fault object (code_relocs object) ≡ None
    → ((q : Place) → pointer_held links.pointers q ≡ option_map pointer_of (pointer_at object q))
    → ((q : Place) → contains place_cmp links.named q ≡ list_any (names object.symbols links.heads q) (code_relocs object))
    → AreLinksOf object links
are_links object links all none pointers named = record {
  same = λ section offset. link-held object.symbols (code_relocs object) links.heads (record { section = section; offset = offset }) all;
  complete = λ section offset.
      let place : Place = record { section = section; offset = offset } in
      ap is_some (link-held object.symbols (code_relocs object) links.heads place all) ∙ link-some_at object (code_relocs object) place none;
  pointers = λ section offset. pointers (record { section = section; offset = offset });
  named = λ section offset.
      let place : Place = record { section = section; offset = offset } in
      subst (λ (b : Bool). IsTrue b ↔ IsNamed object place) (sym (named place)) (names-are_named object links.heads place all);
}
