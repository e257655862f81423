-- The first of items that pass a test, and the lowest symbols at places.
use Rattle.std.proofs.Common.{◌≡◌, ℕ, ◌+◌, ◌<◌, ◌≤◌, ◌⊎◌, ◌==◌, not, inl, inr, Bool, true, false, nat_lt, Option, Some, None, List, [], ◌∷◌, ◌++◌, length, get_or, take, cond, if◌then◌else◌, refl, sym, ap, subst, ◌∙◌, arith}
use Rattle.std.specs.Prelude.{unwrap_or, position, slice_index}
use Rattle.std.specs.List.{position_or_len}
use Rattle.std.specs.Option.{option_or}
use Rattle.std.proofs.lemmas.Bool.{ltb-false, cases_lt, cases_Bool}
use Rattle.std.proofs.lemmas.Bool.Decides.{nat_tests}
use Rattle.std.proofs.lemmas.List.{take_more, get_or-take, length-take-le, get_or_default, get_or_past, get_or_push, get_or_append_left, length-append}
use Rattle.std.proofs.lemmas.List.Folds.{position_or_len_push}
use Rattle.std.proofs.lemmas.List.Quantifiers.{position-Some}
use Rattle.std.proofs.lemmas.List.Sums.{position_or_len_is, fails_before_first, prefix_len-le-length}
use Rattle.rt_elf.specs.Parts.{Parts as Object}
use Rattle.rt_elf.specs.declared.symbol.Symbol.{Symbol}
use Rattle.rt_elf.specs.Symbols.{zero_symbol}
use Rattle.rt_link.specs.Effects.{is_place}
use Rattle.rt_link.specs.declared.place.Place.{Place}
use Rattle.rt_proc.specs.Entries.{has_no_section, place_of}
use Rattle.rt_body.specs.Symbols.{lowest}
use Rattle.rt_link.proofs.Naming.{is_place-self}
use Rattle.rt_proc.proofs.Ended.{eq-self}

is_less : (m n : ℕ) → m < n → nat_lt m n ≡ true
is_less m n h = grind (arith, nat_tests)

not_less : (m n : ℕ) → n ≤ m → nat_lt m n ≡ false
not_less m n h = grind (arith, nat_tests)

not_same : (m n : ℕ) → m < n → (m == n) ≡ false
not_same m n h = grind (arith, nat_tests)

-- where the first that passes is, one more item changes nothing but where there was none
pushed : (n p : ℕ) (pass : Bool) → p ≤ n → cond (nat_lt (cond (p == n) (n + cond pass 0 1) p) (n + 1)) (Some (cond (p == n) (n + cond pass 0 1) p)) None ≡ option_or (cond (nat_lt p n) (Some p) None) (if pass then Some n else None)
pushed n p pass within = by (cases_lt p n) pass
  where
    by : (p < n) ⊎ (n ≤ p) → (pass : Bool) → cond (nat_lt (cond (p == n) (n + cond pass 0 1) p) (n + 1)) (Some (cond (p == n) (n + cond pass 0 1) p)) None ≡ option_or (cond (nat_lt p n) (Some p) None) (if pass then Some n else None)
    by (inl h) pass = rw (not_same p n h, is_less p n h, is_less p (n + 1) (omega arith)) refl
    by (inr h) true = rw (eq-self p n (omega arith), not_less p n h, is_less (n + 0) (n + 1) (omega arith)) (ap Some (omega arith))
    by (inr h) false = rw (eq-self p n (omega arith), not_less p n h, not_less (n + 1) (n + 1) (omega arith)) refl

module _ {X : Type 0} (test : X → Bool) where
  position-none : (xs : List X) (k : ℕ) (d : X) → position test xs ≡ None → k < length xs → test (get_or xs k d) ≡ false
  position-none xs k d none less = elim (cases_Bool (nat_lt (position_or_len test xs) (length xs))) [
    | inl e ↦ let no : Some (position_or_len test xs) ≡ None = rw e at none in cc
    | inr e ↦ fails_before_first test xs k d (let h = ltb-false _ _ e in omega arith)
  ]

  -- one more item
  position-push : (xs : List X) (x : X) → position test (xs ++ x ∷ []) ≡ option_or (position test xs) (if test x then Some (length xs) else None)
  position-push xs x =
      let one_more : length (xs ++ x ∷ []) ≡ length xs + 1 = length-append xs (x ∷ []) in
      let within : position_or_len test xs ≤ length xs = prefix_len-le-length (λ x. not (test x)) xs in
      rw (position_or_len_push test xs x, one_more) (pushed (length xs) (position_or_len test xs) (test x) within)

  pub position-more : (xs : List X) (n : ℕ) (x : X) → n < length xs → x ≡ get_or xs n x
      → position test (take (n + 1) xs) ≡ option_or (position test (take n xs)) (if test x then Some n else None)
  position-more xs n x less is =
      let more : take (n + 1) xs ≡ take n xs ++ x ∷ [] = take_more xs n x less ∙ ap (λ (y : X). take n xs ++ y ∷ []) (sym is) in
      let long : length (take n xs) ≡ n = length-take-le n xs (omega arith) in
      ap (position test) more ∙ position-push (take n xs) x ∙ ap (λ k. option_or (position test (take n xs)) (if test x then Some k else None)) long

  -- the first of all items that pass is the first before one that passes, or that one
  pub first_before : (xs : List X) (i : ℕ) (d : X) → i < length xs → test (get_or xs i d) ≡ true → position_or_len test xs ≡ unwrap_or (position test (take i xs)) i
  first_before xs i d less pass = by (position test (take i xs)) refl
    where
      long : length (take i xs) ≡ i
      long = length-take-le i xs (omega arith)

      by : (o : Option ℕ) → position test (take i xs) ≡ o → position_or_len test xs ≡ unwrap_or o i
      by None e = position_or_len_is test xs i d (omega arith) (λ k h. ap test (sym (get_or-take i xs k d h)) ∙ position-none (take i xs) k d e (omega (arith, long))) (λ h. pass)
      by (Some j) e =
          let facts = position-Some test (take i xs) j d e in
          let before : j < i = omega (arith, long, facts.0) in
          position_or_len_is test xs j d (omega (arith, less)) (λ k h. ap test (sym (get_or-take i xs k d (omega arith))) ∙ facts.2 k h) (λ h. ap test (sym (get_or-take i xs j d before)) ∙ facts.1)

-- the first symbols at a place, with one more symbol
pub firsts_more : (symbols : List Symbol) (i : ℕ) (symbol : Symbol) (own place : Place) (old new : Option ℕ) → i < length symbols → symbol ≡ get_or symbols i symbol → own ≡ place_of symbol
    → old ≡ position (λ s. is_place (place_of s) place) (take i symbols) → new ≡ option_or old (if is_place own place then Some i else None)
    → new ≡ position (λ s. is_place (place_of s) place) (take (i + 1) symbols)
firsts_more symbols i symbol own place old new less is own_is old_is new_is =
    new_is
    ∙ ap (λ (p : Place). option_or old (if is_place p place then Some i else None)) own_is
    ∙ ap (λ (o : Option ℕ). option_or o (if is_place (place_of symbol) place then Some i else None)) old_is
    ∙ sym (position-more (λ s. is_place (place_of s) place) symbols i symbol less is)

-- the symbol of an index is told
pub lowest_here : (object : Object) (i : ℕ) (symbol : Symbol) (own : Place) (held : Option ℕ) (first : ℕ) → i < length object.symbols → symbol ≡ get_or object.symbols i symbol
    → own ≡ place_of symbol → held ≡ position (λ s. is_place (place_of s) own) (take i object.symbols) → first ≡ unwrap_or held i
    → (if has_no_section symbol then i else first) ≡ lowest object i
lowest_here object i symbol own held first less is own_is held_is first_is =
    let here : symbol ≡ get_or object.symbols i zero_symbol = is ∙ get_or_default object.symbols i symbol zero_symbol less in
    let same : is_place (place_of symbol) own ≡ true = subst (λ (p : Place). is_place (place_of symbol) p ≡ true) (sym own_is) (is_place-self (place_of symbol)) in
    let all : position_or_len (λ s. is_place (place_of s) own) object.symbols ≡ first =
    first_before (λ s. is_place (place_of s) own) object.symbols i symbol less (subst (λ (s : Symbol). is_place (place_of s) own ≡ true) is same) ∙ ap (λ (o : Option ℕ). unwrap_or o i) (sym held_is) ∙ sym first_is in
    let at_own : position_or_len (λ s. is_place (place_of s) (place_of symbol)) object.symbols ≡ first = subst (λ (p : Place). position_or_len (λ s. is_place (place_of s) p) object.symbols ≡ first) own_is all in
    subst (λ (s : Symbol). (if has_no_section symbol then i else first) ≡ (if has_no_section s then i else position_or_len (λ t. is_place (place_of t) (place_of s)) object.symbols)) here (ap (λ n. if has_no_section symbol then i else n) (sym at_own))

-- one more symbol is told
pub lowest_more : (object : Object) (lowests : List ℕ) (i low : ℕ) → length lowests ≡ i → ((k : ℕ) → k < i → slice_index lowests k ≡ lowest object k) → low ≡ lowest object i
    → (k : ℕ) → k < i + 1 → slice_index (lowests ++ low ∷ []) k ≡ lowest object k
lowest_more object lowests i low long told is k less = by (cases_lt k i)
  where
    by : (k < i) ⊎ (i ≤ k) → slice_index (lowests ++ low ∷ []) k ≡ lowest object k
    by (inl h) = get_or_append_left lowests (low ∷ []) 0 k (omega arith) ∙ told k h
    by (inr h) = let e : k ≡ i = omega arith in subst (λ n. slice_index (lowests ++ low ∷ []) n ≡ lowest object n) (sym e) (get_or_push lowests low 0 i long ∙ is)

-- all are told
pub lowest_told : (object : Object) (lowests : List ℕ) → length lowests ≡ length object.symbols → ((k : ℕ) → k < length object.symbols → slice_index lowests k ≡ lowest object k)
    → (index : ℕ) → get_or lowests index index ≡ lowest object index
lowest_told object lowests long told index = by (cases_lt index (length object.symbols))
  where
    by : (index < length object.symbols) ⊎ (length object.symbols ≤ index) → get_or lowests index index ≡ lowest object index
    by (inl h) = get_or_default lowests index index 0 (omega arith) ∙ told index h
    by (inr h) = rw (get_or_past lowests index index (omega arith), get_or_past object.symbols index zero_symbol h) refl
