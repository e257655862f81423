-- The functions among the first symbols of a table.
use Rattle.std.proofs.Common.{◌≡◌, ℕ, ◌+◌, ◌<◌, ◌≤◌, ◌↔◌, inl, inr, true, false, Option, Some, None, Ok, Err, IsTrue, List, [], ◌∷◌, ◌++◌, Contains, length, get_or, refl, sym, ap, subst, ◌∙◌, arith}
use Rattle.std.proofs.lemmas.Bool.{cases_eq, not-false}
use Rattle.std.proofs.lemmas.List.{get_or_default}
use Rattle.std.proofs.lemmas.List.Elements.{Contains-get_or, Contains-append_left, Contains-push, Contains-push_cases}
use Rattle.rt_elf.specs.Parts.{Parts as Object}
use Rattle.rt_elf.specs.declared.symbol.Symbol.{Symbol}
use Rattle.rt_elf.specs.Symbols.{zero_symbol}
use Rattle.rt_link.specs.declared.place.Place.{Place}
use Rattle.rt_elf.proofs.Booleans.{fault_if-none, and-rest_false}
use Rattle.rt_control.specs.Places.{is_good}
use Rattle.rt_proc.specs.Entries.{is_function, place_of, IsFunction}
use Rattle.rt_proc.specs.Faults.{checked, symbol_fault, IsSymbolFault}
use Rattle.rt_proc.specs.declared.fault.CodeFault.{CodeFault}
use Rattle.rt_proc.specs.declared.fault.CodeFault.TheVariants.{Bad, Memory}

abbrev pub symbol_by : Object → ℕ → Symbol
symbol_by object index = get_or object.symbols index zero_symbol

-- places are those of the functions among the first n symbols
pub record IsListing (object : Object) (n : ℕ) (places : List Place) : Type 0 where
  pub from : (p : Place) → Contains places p → IsFunction object p
  pub has : (i : ℕ) → i < n → is_function object (symbol_by object i) ≡ true → Contains places (place_of (symbol_by object i))

pub IsListing-none : (object : Object) → IsListing object 0 []
IsListing-none object = record {
  from = λ p h. let lt = h.1 in absurd (omega arith);
  has = λ i less e. absurd (omega arith);
}

-- a function without fault is at a good place
pub good : (object : Object) (symbol : Symbol) → is_function object symbol ≡ true → symbol_fault object symbol ≡ None → is_good object (place_of symbol) ≡ true
good object symbol is none = not-false _ (and-rest_false _ _ (fault_if-none _ _ none) is)

-- one more symbol, which is a function
pub IsListing-push : (object : Object) (n : ℕ) (places : List Place) (symbol : Symbol) → n < length object.symbols → symbol_by object n ≡ symbol
    → is_function object symbol ≡ true → symbol_fault object symbol ≡ None → IsListing object n places → IsListing object (n + 1) (places ++ place_of symbol ∷ [])
IsListing-push object n places symbol within here is none listing = record {
  from = λ p h. elim (Contains-push_cases places (place_of symbol) p h) [
    | inl old ↦ listing.from p old
    | inr new ↦ record {
      symbol = symbol;
      stands = subst (λ (s : Symbol). Contains object.symbols s) here (Contains-get_or object.symbols n zero_symbol within);
      is_function = is;
      is_there = new;
      is_good = subst (λ (q : Place). IsTrue (is_good object q)) new (good object symbol is none);
    }
  ];
  has = λ i less e. elim (cases_eq i n) [
    | inl same ↦ subst (λ (s : Symbol). Contains (places ++ place_of symbol ∷ []) (place_of s)) (sym (ap (symbol_by object) same ∙ here)) (Contains-push places (place_of symbol))
    | inr other ↦ Contains-append_left places (place_of symbol ∷ []) (place_of (symbol_by object i)) (listing.has i (omega arith) e)
  ];
}

-- one more symbol, which is none
pub IsListing-pass : (object : Object) (n : ℕ) (places : List Place) (symbol : Symbol) → symbol_by object n ≡ symbol
    → is_function object symbol ≡ false → IsListing object n places → IsListing object (n + 1) places
IsListing-pass object n places symbol here is listing = record {
  from = listing.from;
  has = λ i less e. elim (cases_eq i n) [
    | inl same ↦ let f : true ≡ false = sym e ∙ ap (is_function object) (ap (symbol_by object) same ∙ here) ∙ is in cc
    | inr other ↦ listing.has i (omega arith) e
  ];
}

-- all symbols
pub IsListing-all : (object : Object) (n : ℕ) (places : List Place) → length object.symbols ≤ n → IsListing object n places → (p : Place) → Contains places p ↔ IsFunction object p
IsListing-all object n places whole listing p = (listing.from p, λ f. has f)
  where
    has : IsFunction object p → Contains places p
    has f =
        let k = f.stands.0 in
        let within = f.stands.1 in
        let here : symbol_by object k ≡ f.symbol = get_or_default object.symbols k zero_symbol f.symbol within ∙ f.stands.2 in
        let found : Contains places (place_of (symbol_by object k)) = listing.has k (omega arith) (ap (is_function object) here ∙ f.is_function) in
        subst (Contains places) (ap place_of here ∙ f.is_there) found

-- What a check of a symbol answers.

pub checked-ok : (fault : Option CodeFault) (x : Unit {0}) → Ok x ≡ checked fault → fault ≡ None
checked-ok None x e = refl
checked-ok (Some fault) x e = cc

pub checked-err : (fault : Option CodeFault) (e : CodeFault) → Err e ≡ checked fault → fault ≡ Some e
checked-err None e f = cc
checked-err (Some fault) e f = let same : e ≡ fault = cc in rw same refl

pub is_symbol_fault : (first : Option CodeFault) (e : CodeFault) → first ≡ Some e → IsSymbolFault first e
is_symbol_fault first (Bad number place) h = h
is_symbol_fault first Memory h = tt

-- the item of a loop over the symbols is the symbol of its index
pub item : (object : Object) (items : List Symbol) (n : ℕ) (symbol : Symbol) → items ≡ object.symbols → n < length items → symbol ≡ get_or items n symbol → symbol_by object n ≡ symbol
item object items n symbol e within is =
    let here : get_or items n zero_symbol ≡ symbol = get_or_default items n zero_symbol symbol within ∙ sym is in
    subst (λ (symbols : List Symbol). get_or symbols n zero_symbol ≡ symbol) e here
