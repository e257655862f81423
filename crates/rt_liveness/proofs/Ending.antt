-- Numbers of symbols that end paths, and names without signatures.
use Rattle.std.proofs.Common.{◌≡◌, ◌==◌, ℕ, zero, suc, ◌+◌, ◌<◌, ◌≤◌, inl, inr, Bool, true, false, Some, None, cond, List, [], ◌∷◌, ◌++◌, AllPairs, length, get_or, take, nat_eq, refl, sym, ap, subst, ◌∙◌, arith}
use Rattle.std.specs.List.{filter, range_with_len}
use Rattle.std.proofs.lemmas.List.{append-nil, get_or_default, take_all}
use Rattle.std.proofs.lemmas.List.Elements.{filter_more}
use Rattle.std.proofs.lemmas.List.FromFn.{length-range_with_len, get_or-range_with_len}
use Rattle.std.proofs.lemmas.List.Kept.{AllPairs-filter}
use lib.Pointwise.{pointwise}
use Rattle.rt_elf.specs.Parts.{Parts as Object}
use Rattle.rt_elf.specs.declared.symbol.Symbol.{Symbol}
use Rattle.rt_elf.specs.Symbols.{zero_symbol}
use Rattle.rt_body.specs.Symbols.{symbol_of}
use Rattle.rt_sigs.specs.Signatures.{Signature, signature_of, args_of}
use Rattle.rt_liveness.specs.declared.named.Named.{Named}
use Rattle.rt_liveness.specs.Ends.{is_end, ends_of}
use Rattle.rt_liveness.specs.Inside.Signed.{IsNamedBy}
use Rattle.std.proofs.lemmas.Bool.{cases_Bool}

module _ (object : Object) (signatures : List Signature) where
  -- whether the symbol of a number ends paths
  abbrev pub is_end_at : ℕ → Bool
  is_end_at n = is_end signatures (symbol_of object n)

  abbrev pub numbers : List ℕ
  numbers = range_with_len 0 (length object.symbols)

  -- those of the first symbols, and of one more
  abbrev pub first_ends : ℕ → List ℕ
  first_ends i = filter is_end_at (take i numbers)

  pub first_ends-more : (i : ℕ) → i < length object.symbols → first_ends (i + 1) ≡ first_ends i ++ cond (is_end_at i) (i ∷ []) []
  first_ends-more i less =
      let long : length numbers ≡ length object.symbols = length-range_with_len 0 (length object.symbols) in
      let at = get_or-range_with_len 0 (length object.symbols) i i less in
      let here : get_or numbers i i ≡ i = omega arith in
      subst (λ (k : ℕ). first_ends (i + 1) ≡ first_ends i ++ cond (is_end_at k) (k ∷ []) []) here (filter_more is_end_at numbers i i (omega arith))

  -- the next symbol ends paths, or doesn't
  next-end : (i : ℕ) (symbol : Symbol) (b : Bool) → i < length object.symbols → symbol ≡ get_or object.symbols i symbol → is_end signatures symbol ≡ b → is_end_at i ≡ b
  next-end i symbol b less is e =
      let here : symbol_of object i ≡ symbol = get_or_default object.symbols i zero_symbol symbol less ∙ sym is in
      ap (is_end signatures) here ∙ e

  pub ends-more : (i : ℕ) (symbol : Symbol) (ends : List ℕ) → i < length object.symbols → symbol ≡ get_or object.symbols i symbol → is_end signatures symbol ≡ true
      → ends ≡ first_ends i → ends ++ i ∷ [] ≡ first_ends (i + 1)
  ends-more i symbol ends less is e old =
      ap (λ (ns : List ℕ). ns ++ i ∷ []) old ∙ ap (λ (b : Bool). first_ends i ++ cond b (i ∷ []) []) (sym (next-end i symbol true less is e)) ∙ sym (first_ends-more i less)

  pub ends-pass : (i : ℕ) (symbol : Symbol) (ends : List ℕ) → i < length object.symbols → symbol ≡ get_or object.symbols i symbol → is_end signatures symbol ≡ false
      → ends ≡ first_ends i → ends ≡ first_ends (i + 1)
  ends-pass i symbol ends less is e old =
      old ∙ sym (append-nil (first_ends i)) ∙ ap (λ (b : Bool). first_ends i ++ cond b (i ∷ []) []) (sym (next-end i symbol false less is e)) ∙ sym (first_ends-more i less)

  pub ends-all : (i : ℕ) → length object.symbols ≤ i → first_ends i ≡ ends_of object signatures
  ends-all i whole =
      let long : length numbers ≡ length object.symbols = length-range_with_len 0 (length object.symbols) in
      ap (filter is_end_at) (take_all i numbers (omega arith))

  -- numbers of symbols ascend
  numbers-ascending : AllPairs ◌<◌ numbers
  numbers-ascending i j d less within =
      let long : length numbers ≡ length object.symbols = length-range_with_len 0 (length object.symbols) in
      let first = get_or-range_with_len 0 (length object.symbols) i d (omega arith) in
      let second = get_or-range_with_len 0 (length object.symbols) j d (omega arith) in
      omega arith

  pub ends-ascending : AllPairs ◌<◌ (ends_of object signatures)
  ends-ascending = AllPairs-filter ◌<◌ is_end_at numbers numbers-ascending

-- a name without a signature has no count
args-none : (signatures : List Signature) (name : List ℕ) → signature_of signatures name ≡ None → args_of signatures name ≡ None
args-none [] name e = refl
args-none ((other, prototype) ∷ signatures) name e = elim (cases_Bool (pointwise nat_eq other name)) [
  | inl same ↦ let bad : Some prototype.scheme ≡ None = rw same at e in cc
  | inr apart ↦ rw apart (args-none signatures name (rw apart at e))
]

-- what is known of a function without a signature

abbrev pub nobody : Named
nobody = record { takes = false ∷ false ∷ false ∷ false ∷ false ∷ false ∷ false ∷ false ∷ []; gives = true ∷ false ∷ [] }

no-takes : (n : ℕ) → get_or nobody.takes n false ≡ false
no-takes zero = refl
no-takes (suc zero) = refl
no-takes (suc (suc zero)) = refl
no-takes (suc (suc (suc zero))) = refl
no-takes (suc (suc (suc (suc zero)))) = refl
no-takes (suc (suc (suc (suc (suc zero))))) = refl
no-takes (suc (suc (suc (suc (suc (suc zero)))))) = refl
no-takes (suc (suc (suc (suc (suc (suc (suc zero))))))) = refl
no-takes (suc (suc (suc (suc (suc (suc (suc (suc n)))))))) = refl

a0-alone : (r : ℕ) → r < 2 → get_or nobody.gives r false ≡ (r == 0)
a0-alone zero less = refl
a0-alone (suc zero) less = refl
a0-alone (suc (suc r)) less = absurd (omega arith)

none-named : IsNamedBy None None nobody
none-named = record { takes = λ n few. no-takes n; gives = a0-alone }

pub unnamed : (signatures : List Signature) (name : List ℕ) → None ≡ signature_of signatures name → IsNamedBy (signature_of signatures name) (args_of signatures name) nobody
unnamed signatures name e =
    let none : signature_of signatures name ≡ None = sym e in
    let no_args : args_of signatures name ≡ None = args-none signatures name none in
    rw (none, no_args) none-named
