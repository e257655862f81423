-- What is known of an object where no check fails.
use Rattle.std.proofs.Common.{◌≡◌, ℕ, zero, suc, ◌+◌, ◌*◌, ◌/◌, ◌<◌, ◌≤◌, inl, inr, Bool, true, false, ◌&&◌, ◌==◌, not, IsTrue, Option, Some, None, List, [], ◌∷◌, All, length, get_or, ◌-◌, if◌then◌else◌, refl, sym, ap, ◌∙◌, subst, arith}
use Rattle.std.proofs.lemmas.Bool.{ltb-true, ltb-false, false≢true, and_parts, or_left, not-false}
use Rattle.std.proofs.lemmas.List.{get_or_past}
use Rattle.std.proofs.lemmas.List.Quantifiers.{position-Some}
use Rattle.std.proofs.lemmas.List.Elements.{All-nil, All-cons}
use Rattle.rt_base.specs.First.{first_of, first_each}
use Rattle.rt_elf.specs.Fields.{half_at, word_at}
use Rattle.rt_elf.specs.Header.{header_place, section_count}
use Rattle.rt_elf.specs.Object.{IsObject, IsInFile, IsOfObject, IsSound, HasSection, section_of, null_section}
use Rattle.rt_elf.specs.Parts.{Parts as Object}
use Rattle.rt_elf.specs.Relocs.{is_reloc_section, is_read, reloc_at, reloc_fault, relocs_fault, reloc_section_fault, reloc_part_fault, reloc_part}
use Rattle.rt_elf.specs.Sections.{section_at, section_by, has_bytes, is_code_section, sections_of, section_fault, sections_fault, is_kind_at, AreWithin}
use Rattle.rt_elf.specs.Symbols.{symbol_table, is_symbol_table, symbol_list, symbol_at, symbol_fault, symbols_fault, symbol_part, symbol_part_fault, strings_of, symbol_count, symbols_of, zero_symbol, is_section_index}
use Rattle.rt_elf.specs.declared.reloc.Reloc.{Reloc}
use Rattle.rt_elf.specs.declared.section.Section.{Section}
use Rattle.rt_elf.specs.declared.symbol.Symbol.{Symbol}
use Rattle.rt_elf.proofs.Booleans.{split, eqb-is, and-rest_false, fault_if-none, none_at}
use Rattle.rt_elf.proofs.Lists.{get_or-entries, length-entries, All-entries, All-joined}
use Rattle.rt_base.proofs.Entries.{then_of-none, first_each-none}

section-within : (bytes : List ℕ) (h : ℕ) → section_fault bytes h ≡ None → IsTrue (has_bytes (section_at bytes h))
    → (section_at bytes h).offset + (section_at bytes h).size ≤ length bytes
unfolding section_fault
section-within bytes h none has =
    ltb-false _ _ (and-rest_false _ _ (fault_if-none _ _ (then_of-none _ _ none).0) has)

-- the bytes of the sections lie in the file
pub sections-within : (bytes : List ℕ) → sections_fault bytes ≡ None → AreWithin bytes
sections-within bytes none k there has =
    section-within bytes (header_place bytes k)
    (none_at (λ (k : ℕ). section_fault bytes (header_place bytes k)) (section_count bytes) k none there) has

-- the bytes of the section of an index lie there, by its type
pub kind-within : (bytes : List ℕ) (kind index : ℕ) → AreWithin bytes → IsTrue (is_kind_at bytes kind index) → (not (kind == 0) && not (kind == 8)) ≡ true
    → (index < section_count bytes) × ((section_by bytes index).offset + (section_by bytes index).size ≤ length bytes)
kind-within bytes kind index within is_kind other =
    let both = and_parts _ _ is_kind in
    let there : index < section_count bytes = ltb-true _ _ both.0 in
    let same : (section_by bytes index).kind ≡ kind = eqb-is _ _ both.1 in
    (there, within index there (rw same other))

code-has_bytes : (section : Section) → IsTrue (is_code_section section) → IsTrue (has_bytes section)
code-has_bytes section code =
    let same : section.kind ≡ 1 = eqb-is _ _ (and_parts _ _ code).0 in
    rw same refl

-- the section of an index of an object that was read
section_of-there : (bytes : List ℕ) (object : Object) (index : ℕ) → IsObject bytes object → index < section_count bytes
    → section_of object index ≡ section_by bytes index
section_of-there bytes object index is there =
    ap (λ (sections : List Section). get_or sections index null_section) is.sections ∙ get_or-entries (section_by bytes) (section_count bytes) index null_section there

in_file : (bytes : List ℕ) (object : Object) → IsObject bytes object → AreWithin bytes → IsInFile object
in_file bytes object is within index code =
    elim (split (section_count bytes) index) [
      | inr there ↦
          let same : section_of object index ≡ section_by bytes index = section_of-there bytes object index is there in
          let code' : IsTrue (is_code_section (section_by bytes index)) = rw same at code in
          rw (same, is.bytes_kept) (within index there (code-has_bytes (section_by bytes index) code'))
      | inl past ↦
          let empty : section_of object index ≡ null_section =
          ap (λ (sections : List Section). get_or sections index null_section) is.sections
          ∙ get_or_past (sections_of bytes) index null_section (omega (arith, length-entries (section_by bytes) 0 (section_count bytes))) in
          absurd (false≢true (rw empty at code))
    ]

-- a part that is there where the second of two tests holds, and so the first, by the faults of both
part-all : {F X : Type 0} (P : X → Type 0) (a b : Bool) (early middle later : Option F) (list : List X) → (b ≡ true → a ≡ true)
    → (if a then first_of (early ∷ middle ∷ (if b then later else None) ∷ []) else None) ≡ None
    → (early ≡ None → b ≡ true → later ≡ None → All P list) → All P (if b then list else [])
part-all P true true early middle later list implied none h =
    let both = then_of-none _ _ none in
    h both.0 refl (then_of-none _ _ (then_of-none _ _ both.1).1).0
part-all P false true early middle later list implied none h = absurd (false≢true (implied refl))
part-all P a false early middle later list implied none h = All-nil P

-- relocations that are read are relocations
read-is_reloc : (bytes : List ℕ) (section : Section) → is_read bytes section ≡ true → is_reloc_section section ≡ true
read-is_reloc bytes section read = or_left (section.kind == 4) (section.kind == 9) (and_parts (section.kind == 4) _ read).0

reloc_part-all : (bytes : List ℕ) (table : Option ℕ) (n k : ℕ) (object : Object) → IsObject bytes object → n ≡ length object.symbols
    → reloc_part_fault bytes table n k ≡ None → All (IsOfObject object) (reloc_part bytes k)
unfolding reloc_section_fault
reloc_part-all bytes table n k object is count none =
    let section = section_by bytes k in
    part-all (IsOfObject object) (is_reloc_section section) (is_read bytes section) _ _ _ _ (read-is_reloc bytes section) none
    (λ early read later.
    let there : section.info < section_count bytes = ltb-true _ _ (not-false _ (fault_if-none _ _ early)) in
    let same : section_of object section.info ≡ section_by bytes section.info = section_of-there bytes object section.info is there in
    let relocs : relocs_fault bytes n section ≡ None = (then_of-none _ _ (then_of-none _ _ later).1).0 in
    All-entries (IsOfObject object) (λ j. reloc_at bytes section.info (section.offset + 12 * j)) 0 (section.size / 12)
    (λ j low high.
    let fault : reloc_fault bytes n (section.offset + 12 * j) ≡ None =
    none_at (λ (j : ℕ). reloc_fault bytes n (section.offset + 12 * j)) (section.size / 12) j relocs (omega arith) in
    let symbol : word_at bytes (section.offset + 12 * j + 4) / 256 < n = ltb-true _ _ (not-false _ (fault_if-none _ _ fault)) in
    (rw same (and_parts _ _ read).1, rw (← count) symbol)))

-- the relocations are of the object's code and data, and about its symbols
relocs-of_object : (bytes : List ℕ) (table : Option ℕ) (n : ℕ) (object : Object) → IsObject bytes object → n ≡ length object.symbols
    → first_each (reloc_part_fault bytes table n) 0 (section_count bytes) ≡ None → All (IsOfObject object) object.relocs
relocs-of_object bytes table n object is count none =
    subst (λ (relocs : List Reloc). All (IsOfObject object) relocs) (sym is.relocs)
    (All-joined (IsOfObject object) (reloc_part bytes) 0 (section_count bytes)
    (λ k low high. reloc_part-all bytes table n k object is count (none_at (reloc_part_fault bytes table n) (section_count bytes) k none (omega arith))))

-- a symbol of a section of a file, or of none
IsPlaced : List ℕ → Symbol → Type 0
IsPlaced bytes symbol = IsTrue (is_section_index bytes symbol.section)

symbol-placed : (bytes strings : List ℕ) (s : ℕ) → symbol_fault bytes strings s ≡ None → is_section_index bytes (half_at bytes (s + 14)) ≡ true
unfolding symbol_fault
symbol-placed bytes strings s none = not-false _ (fault_if-none _ _ (then_of-none _ _ (then_of-none _ _ none).1).0)

symbol_list-placed : (bytes strings : List ℕ) (place n : ℕ) → symbols_fault bytes strings place n ≡ None → All (IsPlaced bytes) (symbol_list bytes strings place n)
unfolding IsPlaced
symbol_list-placed bytes strings place zero none = All-nil (IsPlaced bytes)
symbol_list-placed bytes strings place (suc n) none =
    let e : suc n - 1 ≡ n = omega arith in
    let none' : first_each (λ (k : ℕ). symbol_fault bytes strings (place + 16 * k)) 1 n ≡ None = rw e at none in
    All-cons (IsPlaced bytes) zero_symbol _ refl
    (All-entries (IsPlaced bytes) (λ (k : ℕ). symbol_at bytes strings (place + 16 * k)) 1 n
    (λ k low high.
    let less : k - 1 < n = omega arith in
    let same : 1 + (k - 1) ≡ k = omega arith in
    let fault : symbol_fault bytes strings (place + 16 * k) ≡ None =
    subst (λ (j : ℕ). symbol_fault bytes strings (place + 16 * j) ≡ None) same
    (first_each-none (λ (k : ℕ). symbol_fault bytes strings (place + 16 * k)) 1 n (k - 1) none' less) in
    symbol-placed bytes strings (place + 16 * k) fault))

symbol_part-placed : (bytes : List ℕ) (table : Option ℕ) → symbol_part_fault bytes (sections_of bytes) table ≡ None → All (IsPlaced bytes) (symbol_part bytes table)
symbol_part-placed bytes None none = All-nil (IsPlaced bytes)
symbol_part-placed bytes (Some k) none =
    symbol_list-placed bytes (strings_of bytes k) (section_by bytes k).offset (symbol_count bytes k) (then_of-none _ _ (then_of-none _ _ none).1).0

-- each symbol is of a section of the object, or of none
symbols-placed : (bytes : List ℕ) (object : Object) → IsObject bytes object
    → symbol_part_fault bytes (sections_of bytes) (symbol_table (sections_of bytes)) ≡ None → All (HasSection object) object.symbols
unfolding IsPlaced
symbols-placed bytes object is none =
    let count : section_count bytes ≡ length object.sections =
    sym (ap (λ (sections : List Section). length sections) is.sections ∙ length-entries (section_by bytes) 0 (section_count bytes)) in
    let all : All (IsPlaced bytes) object.symbols =
    subst (λ (symbols : List Symbol). All (IsPlaced bytes) symbols) (sym is.symbols) (symbol_part-placed bytes (symbol_table (sections_of bytes)) none) in
    rw count at all

-- what each object that was read keeps
pub sound : (bytes : List ℕ) (table : Option ℕ) (n : ℕ) (object : Object) → IsObject bytes object → AreWithin bytes → n ≡ length object.symbols
    → first_each (reloc_part_fault bytes table n) 0 (section_count bytes) ≡ None
    → symbol_part_fault bytes (sections_of bytes) (symbol_table (sections_of bytes)) ≡ None
    → length object.sections < 65536 → length object.symbols ≤ length bytes → length bytes ≤ 16777216 → IsSound object
sound bytes table n object is within count none placed sections symbols short = record {
  in_file = in_file bytes object is within;
  linkable = record {
    relocs = relocs-of_object bytes table n object is count none;
    sections_fit = omega (arith, sections);
    symbols_fit = omega (arith, symbols, short);
  };
  symbols = symbols-placed bytes object is placed;
}

-- the type of the symbol table
pub symbol_table-kind : (bytes : List ℕ) (sections : List Section) (index : ℕ) → sections ≡ sections_of bytes
    → symbol_table sections ≡ Some index → (section_by bytes index).kind ≡ 2
symbol_table-kind bytes sections index is found =
    let found' : symbol_table (sections_of bytes) ≡ Some index = rw is at found in
    let stands = position-Some is_symbol_table (sections_of bytes) index null_section found' in
    let there : index < section_count bytes = omega (arith, stands.0, length-entries (section_by bytes) 0 (section_count bytes)) in
    let kind : is_symbol_table (section_by bytes index) ≡ true =
    rw (get_or-entries (section_by bytes) (section_count bytes) index null_section there) at stands.1 in
    eqb-is _ _ kind

pub length-symbol_list : (bytes strings : List ℕ) (place n : ℕ) → length (symbol_list bytes strings place n) ≡ n
length-symbol_list bytes strings place zero = refl
length-symbol_list bytes strings place (suc n) = ap suc (length-entries _ 1 n)
