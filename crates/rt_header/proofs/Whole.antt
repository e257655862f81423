-- Good declarations with the same words, whose structs differ and are numbered as they are met, are one.
use Rattle.std.proofs.Common.{◌≡◌, ℕ, zero, suc, ◌+◌, ◌<◌, ◌≤◌, ◌/◌, ◌⊎◌, ◌==◌, inl, inr, pos, Option, Some, None, List, [], ◌∷◌, ◌++◌, map, length, get_or, refl, sym, ap, subst, ◌∙◌, arith, ext_get_or}
use Rattle.std.specs.Prelude.{Contains, find, All}
use Rattle.std.specs.Option.{option_map, option_and_then}
use Rattle.std.specs.Map.{lookup}
use Rattle.std.specs.Ordering.{nat_cmp, ordering_reverse}
use Rattle.std.specs.Cmp.Lexicographic.{slice_cmp}
use Rattle.std.specs.declared.cmp.Ordering.TheVariants.{Less}
use Rattle.std.proofs.lemmas.Cmp.{nat_list_cmp_total}
use Rattle.std.proofs.lemmas.List.{get_or-map, length-map}
use Rattle.std.proofs.lemmas.List.Elements.{All-get_or, Contains-append_cases, Contains-get_or}
use Rattle.std.proofs.lemmas.Map.Keys.{sorted_from_strictly_increasing, below_from_sorted}
use Rattle.rt_base.specs.First.{entries}
use Rattle.rt_base.proofs.Lists.{All-from_contains, Contains-none, Contains-here, Contains-there, Contains-cons_cases, Contains-map, Contains-map_source}
use Rattle.rt_lines.specs.declared.label.Loc.{Loc}
use Rattle.rt_lines.specs.declared.label.Label.{Label}
use Rattle.rt_lines.specs.declared.label.Label.TheVariants.{In, Out}
use Rattle.rt_lines.specs.Equality.{loc_eq}
use Rattle.rt_cdecl.specs.declared.declarations.CType.{CType}
use Rattle.rt_cdecl.specs.declared.declarations.CType.TheVariants.{Unused, Scalar, Pointer}
use Rattle.rt_cdecl.specs.declared.declarations.CField.{CField}
use Rattle.rt_cdecl.specs.declared.declarations.CStruct.{CStruct}
use Rattle.rt_cdecl.specs.declared.declarations.CFunction.{CFunction}
use Rattle.rt_cdecl.specs.declared.declarations.Decls.{Decls}
use Rattle.rt_cdecl.specs.Rows.{typedef_text}
use Rattle.rt_cdecl.specs.Types.{bits_of, IsField, IsPresent, IsType, IsWidth}
use Rattle.rt_cdecl.specs.GoodDecls.{AreAscending, ArePlaced, IsArgument, IsFunction, IsGoodDecls, IsStruct, LeadsBelow, arg_types, function_numbers, place_of, struct_numbers, used_types}
use Rattle.rt_cdecl.specs.HeaderWords.{HeaderWord, Letter, At, OfStruct, after_all, function_of, port_type, present, scalar_of, struct_of, word_in}
use Rattle.rt_lattice.specs.Lattices.{NamedOrder}
use Rattle.rt_tree.specs.Trees.{Nodes}
use Rattle.rt_header.specs.Erased.{word_in as erased_word}
use Rattle.rt_header.specs.Headers.{IsHeaderOf}
use Rattle.rt_header.specs.Laws.{OneHeaderOf}
use Rattle.rt_header.specs.Met.{IsFirstMet, structs_of_function}
use Rattle.rt_header.proofs.Heading.{find_ascending}
use Rattle.rt_header.proofs.Telling.{find_numbered}
use Rattle.rt_header.proofs.Pairing as pairing
use Rattle.rt_header.proofs.Pairing.{each_of, looked, no_struct}
use Rattle.rt_header.proofs.Pairing.{Alike, AreAlike, HaveAlike, ArePaired, AreLed, Like, more_types, no_types, no_functions, more_functions}

-- Types by their lines, ascending.

less_less : (x y : List ℕ) → slice_cmp nat_cmp x y ≡ Less → slice_cmp nat_cmp y x ≡ Less → ⊥
less_less x y h k = let clash : Less ≡ ordering_reverse Less = sym h ∙ (nat_list_cmp_total.antisymm x y ∙ ap ordering_reverse k) in cc

after_head : (t : CType) (ts : List CType) → AreAscending (map typedef_text (t ∷ ts)) → (u : CType) → Contains ts u → slice_cmp nat_cmp (typedef_text t) (typedef_text u) ≡ Less
after_head t [] rise u c = absurd (Contains-none u c)
after_head t (next ∷ ts) (e, rise) u c = by (Contains-cons_cases next ts u c) (after_head next ts rise u)
  where
    by : (next ≡ u) ⊎ Contains ts u → (Contains ts u → slice_cmp nat_cmp (typedef_text next) (typedef_text u) ≡ Less) → slice_cmp nat_cmp (typedef_text t) (typedef_text u) ≡ Less
    by (inl is) further = subst (λ v. slice_cmp nat_cmp (typedef_text t) (typedef_text v) ≡ Less) is e
    by (inr d) further = nat_list_cmp_total.trans (typedef_text t) (typedef_text next) (typedef_text u) e (further d)

ascending_tail : (t : CType) (ts : List CType) → AreAscending (map typedef_text (t ∷ ts)) → AreAscending (map typedef_text ts)
ascending_tail t [] rise = tt
ascending_tail t (next ∷ ts) rise = rise.1

one_ascending : (ts us : List CType) → AreAscending (map typedef_text ts) → AreAscending (map typedef_text us) → ((t : CType) → Contains ts t → Contains us t) → ((t : CType) → Contains us t → Contains ts t) → ts ≡ us
one_ascending [] [] rise rise' to back = refl
one_ascending [] (u ∷ us) rise rise' to back = absurd (Contains-none u (back u (Contains-here u us)))
one_ascending (t ∷ ts) [] rise rise' to back = absurd (Contains-none t (to t (Contains-here t ts)))
one_ascending (t ∷ ts) (u ∷ us) rise rise' to back =
    by head (λ to back. one_ascending ts us (ascending_tail t ts rise) (ascending_tail u us rise') to back)
  where
    head : t ≡ u
    head = cases (Contains-cons_cases u us t (to t (Contains-here t ts))) (Contains-cons_cases t ts u (back u (Contains-here u us)))
      where
        cases : (u ≡ t) ⊎ Contains us t → (t ≡ u) ⊎ Contains ts u → t ≡ u
        cases (inl e) other = sym e
        cases (inr c) (inl e) = e
        cases (inr c) (inr d) = absurd (less_less (typedef_text u) (typedef_text t) (after_head u us rise' t c) (after_head t ts rise u d))

    on : t ≡ u → (v : CType) → Contains ts v → Contains us v
    on e v c = cases (Contains-cons_cases u us v (to v (Contains-there t ts v c)))
      where
        cases : (u ≡ v) ⊎ Contains us v → Contains us v
        cases (inl f) = let less = subst (λ w. slice_cmp nat_cmp (typedef_text t) (typedef_text w) ≡ Less) (sym f ∙ sym e) (after_head t ts rise v c) in absurd (less_less (typedef_text t) (typedef_text t) less less)
        cases (inr d) = d

    on_back : t ≡ u → (v : CType) → Contains us v → Contains ts v
    on_back e v c = cases (Contains-cons_cases t ts v (back v (Contains-there u us v c)))
      where
        cases : (t ≡ v) ⊎ Contains ts v → Contains ts v
        cases (inl f) = let less = subst (λ w. slice_cmp nat_cmp (typedef_text u) (typedef_text w) ≡ Less) (sym f ∙ e) (after_head u us rise' v c) in absurd (less_less (typedef_text u) (typedef_text u) less less)
        cases (inr d) = d

    by : t ≡ u → (((v : CType) → Contains ts v → Contains us v) → ((v : CType) → Contains us v → Contains ts v) → ts ≡ us) → t ∷ ts ≡ u ∷ us
    by e rest = ap (λ z. z ∷ ts) e ∙ ap (λ zs. u ∷ zs) (rest (on e) (on_back e))

-- Declarations.

abbrev no_function : CFunction
no_function = record { number = 0; args = []; out0 = Unused; out1 = Unused }

entry_at : (i n k : ℕ) → k < n → get_or (entries (λ m. m) i n) k 0 ≡ i + k
entry_at i zero k less = absurd (omega (arith, less))
entry_at i (suc n) zero less = omega arith
entry_at i (suc n) (suc k) less = entry_at (i + 1) n k (omega (arith, less)) ∙ omega arith

width_of : (t : CType) → IsType t → IsPresent t → 0 < bits_of t / 8
width_of Unused is there = absurd there
width_of (Scalar name bits) is there = by is.1
  where
    by : IsWidth bits → 0 < bits / 8
    by (inl e) = subst (λ (b : ℕ). 0 < b / 8) (sym e) (omega arith)
    by (inr (inl e)) = subst (λ (b : ℕ). 0 < b / 8) (sym e) (omega arith)
    by (inr (inr e)) = subst (λ (b : ℕ). 0 < b / 8) (sym e) (omega arith)
width_of (Pointer n) is there = omega arith

wide_at : (args : List (Loc × CType)) → ((arg : Loc × CType) → Contains args arg → IsArgument arg) → (i : ℕ) → bits_of (get_or (arg_types args) i Unused) ≡ 32
wide_at [] are i = refl
wide_at (arg ∷ args) are zero = (are arg (Contains-here arg args)).1
wide_at (arg ∷ args) are (suc i) = wide_at args (λ a c. are a (Contains-there arg args a c)) i

args_same : (i : ℕ) (xs ys : List (Loc × CType)) → ArePlaced i xs → ArePlaced i ys → arg_types xs ≡ arg_types ys → xs ≡ ys
args_same i [] [] placed placed' e = refl
args_same i [] (y ∷ ys) placed placed' e = absurd (let l : 0 ≡ suc (length (arg_types ys)) = ap length e in omega (arith, l))
args_same i (x ∷ xs) [] placed placed' e = absurd (let l : suc (length (arg_types xs)) ≡ 0 = ap length e in omega (arith, l))
args_same i (x ∷ xs) (y ∷ ys) (here, placed) (here', placed') e =
    ap (λ p. (p, x.1) ∷ xs) (here ∙ sym here') ∙ (ap (λ t. (y.0, t) ∷ xs) (head e) ∙ ap (λ zs. y ∷ zs) (args_same (i + 1) xs ys placed placed' (tail e)))
  where
    head : x.1 ∷ arg_types xs ≡ y.1 ∷ arg_types ys → x.1 ≡ y.1
    head e = ap (λ ts. get_or ts 0 Unused) e

    drop_one : List CType → List CType
    drop_one [] = []
    drop_one (t ∷ ts) = ts

    tail : x.1 ∷ arg_types xs ≡ y.1 ∷ arg_types ys → arg_types xs ≡ arg_types ys
    tail e = ap drop_one e

module _ (d : Decls) (good : IsGoodDecls d) where
  number_at : (k : ℕ) → k < length d.structs → (get_or d.structs k no_struct).number ≡ k
  number_at k less =
      sym (get_or-map (λ (s : CStruct). s.number) d.structs k no_struct 0 less)
      ∙ (ap (λ ns. get_or ns k 0) good.numbered ∙ (entry_at 0 (length d.structs) k less ∙ omega arith))

  struct_found : (k : ℕ) → k < length d.structs → struct_of d k ≡ Some (get_or d.structs k no_struct)
  struct_found k less =
      ap (λ (n : ℕ). find (λ (t : CStruct). t.number == n) d.structs) (omega arith) ∙
      find_numbered no_struct d.structs 0 k less (λ j h. number_at j h ∙ omega arith)

  function_found : (i : ℕ) → i < length d.functions → function_of d (get_or d.functions i no_function).number ≡ Some (get_or d.functions i no_function)
  function_found i less = find_ascending no_function d.functions i less rise
    where
      numbered : (k : ℕ) → k < length d.functions → get_or (function_numbers d.functions) k 0 ≡ (get_or d.functions k no_function).number
      numbered k h = get_or-map (λ (f : CFunction). f.number) d.functions k no_function 0 h

      rise : (j : ℕ) → j < i → (get_or d.functions j no_function).number < (get_or d.functions i no_function).number
      rise j h =
          let low : get_or (function_numbers d.functions) j 0 < get_or (function_numbers d.functions) i 0 =
          below_from_sorted (function_numbers d.functions) j i 0 (sorted_from_strictly_increasing (function_numbers d.functions) good.functions_rise) h
          (let l = length-map d.functions (λ (f : CFunction). f.number) in omega (arith, l, less)) in
          omega (arith, low, numbered j (omega (arith, h, less)), numbered i less)

  struct_is : (k : ℕ) → k < length d.structs → IsStruct (length d.structs) (get_or d.structs k no_struct)
  struct_is k less = good.structs k no_struct less

  function_is : (i : ℕ) → i < length d.functions → IsFunction (length d.structs) (get_or d.functions i no_function)
  function_is i less = good.functions i no_function less

  fields_present : (k : ℕ) → k < length d.structs → All (λ (f : CField). IsPresent f.kind) (get_or d.structs k no_struct).fields
  fields_present k less = λ j f h. ((struct_is k less).fields j f h).1

  fields_wide : (k : ℕ) → k < length d.structs → All (λ (f : CField). 0 < bits_of f.kind / 8) (get_or d.structs k no_struct).fields
  fields_wide k less = λ j f h. let is = (struct_is k less).fields j f h in width_of _ is.0 is.1

  -- the types of a function lead to structs
  types_lead : (i : ℕ) → i < length d.functions → let f = get_or d.functions i no_function in All (LeadsBelow (length d.structs)) (arg_types f.args ++ f.out0 ∷ f.out1 ∷ [])
  types_lead i less =
      let f = get_or d.functions i no_function in
      let lead = (function_is i less).lead in
      All-from_contains (LeadsBelow (length d.structs)) (arg_types f.args ++ f.out0 ∷ f.out1 ∷ [])
      (λ t c. by f lead t (Contains-append_cases (arg_types f.args) (f.out0 ∷ f.out1 ∷ []) t c))
    where
      by : (f : CFunction) → All (LeadsBelow (length d.structs)) (f.out0 ∷ f.out1 ∷ arg_types f.args) → (t : CType) → Contains (arg_types f.args) t ⊎ Contains (f.out0 ∷ f.out1 ∷ []) t → LeadsBelow (length d.structs) t
      by f lead t (inl c) =
          each_of (LeadsBelow (length d.structs)) (f.out0 ∷ f.out1 ∷ arg_types f.args) lead t (Contains-there f.out0 (f.out1 ∷ arg_types f.args) t (Contains-there f.out1 (arg_types f.args) t c))
      by f lead t (inr c) = at (Contains-cons_cases f.out0 (f.out1 ∷ []) t c)
        where
          at : (f.out0 ≡ t) ⊎ Contains (f.out1 ∷ []) t → LeadsBelow (length d.structs) t
          at (inl e) = subst (LeadsBelow (length d.structs)) e (lead 0 Unused (omega arith))
          at (inr c') = last (Contains-cons_cases f.out1 [] t c')
            where
              last : (f.out1 ≡ t) ⊎ Contains [] t → LeadsBelow (length d.structs) t
              last (inl e) = subst (LeadsBelow (length d.structs)) e (lead 1 Unused (omega arith))
              last (inr none) = absurd (Contains-none t none)

-- what a struct's words are behind a field
struct_words : (d : Decls) (good : IsGoodDecls d) (m : ℕ) → m < length d.structs → (bits k : ℕ) (letters : List Letter) → option_map scalar_of (after_all d (At bits (pos k) ∷ letters) (OfStruct m))
    ≡ option_map scalar_of (option_and_then (after_all d letters) (pairing.field_words (get_or d.structs m no_struct) bits k))
struct_words d good m less bits k letters =
    ap (λ o. option_map scalar_of (option_and_then (after_all d letters) (option_and_then (λ s. pairing.field_words s bits k) o))) (struct_found d good m less)

-- the words of a function
function_words : (d : Decls) (good : IsGoodDecls d) (i : ℕ) → i < length d.functions → (port : Label) (letters : List Letter) → let f = get_or d.functions i no_function in
    word_in d f.number (record { port = port; letters = letters }) ≡ option_map scalar_of (option_and_then (after_all d letters) (port_type f port))
function_words d good i less port letters =
    ap (λ o. option_map scalar_of (option_and_then (after_all d letters) (option_and_then (λ (f : CFunction). port_type f port) o))) (function_found d good i less)

-- like structs have fields that are alike
module _ (a b : Decls) (ga : IsGoodDecls a) (gb : IsGoodDecls b) where
  words_of_like : (m n : ℕ) → m < length a.structs → n < length b.structs → Like a b m n → (bits k : ℕ) (letters : List Letter)
      → option_map scalar_of (option_and_then (after_all a letters) (pairing.field_words (get_or a.structs m no_struct) bits k))
      ≡ option_map scalar_of (option_and_then (after_all b letters) (pairing.field_words (get_or b.structs n no_struct) bits k))
  words_of_like m n low low' l bits k letters = sym (struct_words a ga m low bits k letters) ∙ (l (At bits (pos k) ∷ letters) ∙ struct_words b gb n low' bits k letters)

  matches_of_like : (m n : ℕ) → m < length a.structs → n < length b.structs → Like a b m n → (f : CField) → Contains (get_or a.structs m no_struct).fields f
      → pairing.Matches a b f (get_or b.structs n no_struct).fields
  matches_of_like m n low low' l =
      pairing.matches a b (get_or a.structs m no_struct) (get_or b.structs n no_struct) (struct_is a ga m low).fit (fields_wide a ga m low) (fields_present a ga m low) (fields_present b gb n low')
      (words_of_like m n low low' l)

fields_of_like : (a b : Decls) (ga : IsGoodDecls a) (gb : IsGoodDecls b) (m n : ℕ) → m < length a.structs → n < length b.structs → Like a b m n
    → HaveAlike a b (get_or a.structs m no_struct).fields (get_or b.structs n no_struct).fields
fields_of_like a b ga gb m n low low' l =
    pairing.have_alike a b 0 0 (get_or a.structs m no_struct).fields (get_or b.structs n no_struct).fields (struct_is a ga m low).fit (struct_is b gb n low').fit (fields_wide a ga m low) (fields_wide b gb n low')
    (matches_of_like a b ga gb m n low low' l)
    (λ g c. let (f, d, e, h) = matches_of_like b a gb ga n m low' low (λ letters. sym (l letters)) g c in (f, d, e))

module _ (a b : Decls) (ga : IsGoodDecls a) (gb : IsGoodDecls b) (numbers : function_numbers a.functions ≡ function_numbers b.functions)
    (words : (number : ℕ) → Contains (function_numbers a.functions) number → (word : HeaderWord) → word_in a number word ≡ word_in b number word)
    (apart_a : (m n : ℕ) → m < length a.structs → n < length a.structs → ((letters : List Letter) → option_map scalar_of (after_all a letters (OfStruct m)) ≡ option_map scalar_of (after_all a letters (OfStruct n))) → m ≡ n)
    (apart_b : (m n : ℕ) → m < length b.structs → n < length b.structs → ((letters : List Letter) → option_map scalar_of (after_all b letters (OfStruct m)) ≡ option_map scalar_of (after_all b letters (OfStruct n))) → m ≡ n)
    (met_a : IsFirstMet a) (met_b : IsFirstMet b) where
  abbrev fa : ℕ → CFunction
  fa i = get_or a.functions i no_function

  abbrev fb : ℕ → CFunction
  fb i = get_or b.functions i no_function

  each : length a.functions ≡ length b.functions
  each = sym (length-map a.functions (λ (f : CFunction). f.number)) ∙ (ap length numbers ∙ length-map b.functions (λ (f : CFunction). f.number))

  same_number : (i : ℕ) → i < length a.functions → (fa i).number ≡ (fb i).number
  same_number i less =
      sym (get_or-map (λ (f : CFunction). f.number) a.functions i no_function 0 less) ∙ (ap (λ ns. get_or ns i 0) numbers
      ∙ get_or-map (λ (f : CFunction). f.number) b.functions i no_function 0 (omega (arith, less, each)))

  same_words : (i : ℕ) → i < length a.functions → (port : Label) (letters : List Letter) → option_map scalar_of (option_and_then (after_all a letters) (port_type (fa i) port))
      ≡ option_map scalar_of (option_and_then (after_all b letters) (port_type (fb i) port))
  same_words i less port letters =
      let number = (fa i).number in
      let there : Contains (function_numbers a.functions) number = Contains-map (λ (f : CFunction). f.number) a.functions (fa i) (Contains-get_or a.functions i no_function less) in
      sym (function_words a ga i less port letters)
      ∙ (words number there (record { port = port; letters = letters })
      ∙ (ap (λ n. word_in b n (record { port = port; letters = letters })) (same_number i less) ∙ function_words b gb i (omega (arith, less, each)) port letters))

  argument_alike : (i : ℕ) → i < length a.functions → (j : ℕ) → Alike a b (get_or (arg_types (fa i).args) j Unused) (get_or (arg_types (fb i).args) j Unused)
  argument_alike i less j =
      let p = (function_is a ga i less).args in
      let q = (function_is b gb i (omega (arith, less, each))).args in
      pairing.typed a b _ _
      (wide_at (fa i).args (λ arg c. each_of IsArgument (fa i).args p.types arg c) j ∙ sym (wide_at (fb i).args (λ arg c. each_of IsArgument (fb i).args q.types arg c) j))
      (λ letters. ap (λ o. option_map scalar_of (option_and_then (after_all a letters) o)) (sym (looked 0 (fa i).args p.places j))
      ∙ (same_words i less (In (place_of (0 + j))) letters
      ∙ ap (λ o. option_map scalar_of (option_and_then (after_all b letters) o)) (looked 0 (fb i).args q.places j)))

  out0_alike : (i : ℕ) → i < length a.functions → Alike a b (fa i).out0 (fb i).out0
  out0_alike i less =
      pairing.typed a b (fa i).out0 (fb i).out0 ((function_is a ga i less).out0.1 ∙ sym (function_is b gb i (omega (arith, less, each))).out0.1) (λ letters. same_words i less (Out 0) letters)

  out1_alike : (i : ℕ) → i < length a.functions → Alike a b (fa i).out1 (fb i).out1
  out1_alike i less =
      pairing.typed a b (fa i).out1 (fb i).out1 ((function_is a ga i less).out1.1 ∙ sym (function_is b gb i (omega (arith, less, each))).out1.1) (λ letters. same_words i less (Out 1) letters)

  types_alike : (i : ℕ) → i < length a.functions → AreAlike a b (arg_types (fa i).args) (arg_types (fb i).args)
  types_alike i less =
      pairing.alike_by a b (arg_types (fa i).args) (arg_types (fb i).args) (function_is a ga i less).args.used (function_is b gb i (omega (arith, less, each))).args.used (argument_alike i less)

  all_alike : (i : ℕ) → i < length a.functions → AreAlike a b (arg_types (fa i).args ++ (fa i).out0 ∷ (fa i).out1 ∷ []) (arg_types (fb i).args ++ (fb i).out0 ∷ (fb i).out1 ∷ [])
  all_alike i less =
      pairing.alike_append a b (arg_types (fa i).args) (arg_types (fb i).args) ((fa i).out0 ∷ (fa i).out1 ∷ []) ((fb i).out0 ∷ (fb i).out1 ∷ []) (types_alike i less)
      (more_types (fa i).out0 (fb i).out0 _ _ (out0_alike i less) (more_types (fa i).out1 (fb i).out1 _ _ (out1_alike i less) no_types))

  abbrev la : ℕ
  la = length a.structs

  abbrev lb : ℕ
  lb = length b.structs

  low_a : (m : ℕ) → m < la → All (λ (f : CField). LeadsBelow la f.kind) (get_or a.structs m no_struct).fields
  low_a m less = (struct_is a ga m less).lead

  low_b : (n : ℕ) → n < lb → All (λ (f : CField). LeadsBelow lb f.kind) (get_or b.structs n no_struct).fields
  low_b n less = (struct_is b gb n less).lead

  led_by : (fs gs : List CFunction) → length fs ≡ length gs → ((i : ℕ) → i < length fs → ArePaired a b la lb (structs_of_function (get_or fs i no_function)) (structs_of_function (get_or gs i no_function)))
      → AreLed a b la lb apart_a apart_b (fields_of_like a b ga gb) low_a low_b fs gs
  led_by [] [] same at = no_functions
  led_by [] (g ∷ gs) same at = absurd (omega (arith, same))
  led_by (f ∷ fs) [] same at = absurd (omega (arith, same))
  led_by (f ∷ fs) (g ∷ gs) same at = more_functions f g fs gs (at 0 (omega arith)) (led_by fs gs (omega (arith, same)) (λ i less. at (suc i) (omega (arith, less))))

  all_met : (la ≡ lb) × pairing.AreSameTo a b la lb apart_a apart_b (fields_of_like a b ga gb) low_a low_b la
  all_met =
      let (counts, same) = pairing.met_same a b la lb apart_a apart_b (fields_of_like a b ga gb) low_a low_b 0 a.structs b.structs a.functions b.functions
      (λ j less. ap (λ i. get_or a.structs i no_struct) (omega arith)) (λ j less. ap (λ i. get_or b.structs i no_struct) (omega arith))
      (led_by a.functions b.functions each
      (λ i less. pairing.paired a b la lb _ _ (all_alike i less) (types_lead a ga i less) (types_lead b gb i (omega (arith, less, each)))))
      (λ k less. absurd (omega (arith, less))) met_a met_b in
      (counts, subst (pairing.AreSameTo a b la lb apart_a apart_b (fields_of_like a b ga gb) low_a low_b) (omega arith) same)

  abbrev struct_by : ℕ → List CField → CStruct
  struct_by number fields = record { number = number; fields = fields }

  structs_same : a.structs ≡ b.structs
  structs_same = ext_get_or no_struct a.structs b.structs all_met.0 at
    where
      at : (k : ℕ) → k < length a.structs → get_or a.structs k no_struct ≡ get_or b.structs k no_struct
      at k less =
          let less' : k < lb = omega (arith, less, all_met.0) in
          let (p, q, l) = all_met.1 k less in
          let fields = pairing.fields_same a b la lb apart_a apart_b (fields_of_like a b ga gb) low_a low_b all_met.1 _ _ (fields_of_like a b ga gb k k p q l) (low_a k p) (low_b k q) in
          ap (λ n. struct_by n (get_or a.structs k no_struct).fields) (number_at a ga k less ∙ sym (number_at b gb k less'))
          ∙ ap (λ fs. struct_by (get_or b.structs k no_struct).number fs) fields

  abbrev function_by : ℕ → List (Loc × CType) → CType → CType → CFunction
  function_by number args out0 out1 = record { number = number; args = args; out0 = out0; out1 = out1 }

  functions_same : a.functions ≡ b.functions
  functions_same = ext_get_or no_function a.functions b.functions each at
    where
      lead_a : (i : ℕ) → i < length a.functions → All (LeadsBelow la) ((fa i).out0 ∷ (fa i).out1 ∷ arg_types (fa i).args)
      lead_a i less = (function_is a ga i less).lead

      lead_b : (i : ℕ) → i < length a.functions → All (LeadsBelow lb) ((fb i).out0 ∷ (fb i).out1 ∷ arg_types (fb i).args)
      lead_b i less = (function_is b gb i (omega (arith, less, each))).lead

      tail2 : {l : ℕ} (x y : CType) (ts : List CType) → All (LeadsBelow l) (x ∷ y ∷ ts) → All (LeadsBelow l) ts
      tail2 x y ts all k d less = all (suc (suc k)) d (omega (arith, less))

      at : (i : ℕ) → i < length a.functions → fa i ≡ fb i
      at i less =
          let types = pairing.types_same a b la lb apart_a apart_b (fields_of_like a b ga gb) low_a low_b all_met.1 _ _ (types_alike i less) (tail2 _ _ _ (lead_a i less)) (tail2 _ _ _ (lead_b i less)) in
          let args = args_same 0 (fa i).args (fb i).args (function_is a ga i less).args.places (function_is b gb i (omega (arith, less, each))).args.places types in
          let first = pairing.type_same a b la lb apart_a apart_b (fields_of_like a b ga gb) low_a low_b all_met.1 _ _ (out0_alike i less) (lead_a i less 0 Unused (omega arith)) (lead_b i less 0 Unused (omega arith)) in
          let second = pairing.type_same a b la lb apart_a apart_b (fields_of_like a b ga gb) low_a low_b all_met.1 _ _ (out1_alike i less) (lead_a i less 1 Unused (omega arith)) (lead_b i less 1 Unused (omega arith)) in
          ap (λ n. function_by n (fa i).args (fa i).out0 (fa i).out1) (same_number i less)
          ∙ (ap (λ xs. function_by (fb i).number xs (fa i).out0 (fa i).out1) args
          ∙ (ap (λ t. function_by (fb i).number (fb i).args t (fa i).out1) first
          ∙ ap (λ t. function_by (fb i).number (fb i).args (fb i).out0 t) second))

  typedefs_same : a.typedefs ≡ b.typedefs
  typedefs_same =
      let used : used_types a.structs a.functions ≡ used_types b.structs b.functions = ap (λ ss. used_types ss a.functions) structs_same ∙ ap (λ fs. used_types b.structs fs) functions_same in
      one_ascending a.typedefs b.typedefs ga.typedefs_rise gb.typedefs_rise
      (λ t c. (gb.exact t).1 (subst (λ ts. Contains ts t) used ((ga.exact t).0 c)))
      (λ t c. (ga.exact t).1 (subst (λ ts. Contains ts t) (sym used) ((gb.exact t).0 c)))

  abbrev decls_by : List CType → List CStruct → List CFunction → Decls
  decls_by typedefs structs functions = record { typedefs = typedefs; structs = structs; functions = functions }

  pub one_decls : a ≡ b
  one_decls =
      ap (λ ts. decls_by ts a.structs a.functions) typedefs_same
      ∙ (ap (λ ss. decls_by b.typedefs ss a.functions) structs_same ∙ ap (λ fs. decls_by b.typedefs b.structs fs) functions_same)

pub one_header_of : OneHeaderOf
one_header_of lattice sketches a b anti ga gb x y = one_decls a b ga gb (x.functions ∙ sym y.functions) words x.apart y.apart x.met y.met
  where
    tops : x.top ≡ y.top
    tops = anti x.top y.top x.is_top.within y.is_top.within (y.is_top.above x.top x.is_top.within) (x.is_top.above y.top y.is_top.within)

    bottoms : x.bottom ≡ y.bottom
    bottoms = anti x.bottom y.bottom x.is_bottom.within y.is_bottom.within (x.is_bottom.below y.bottom y.is_bottom.within) (y.is_bottom.below x.bottom x.is_bottom.within)

    words : (number : ℕ) → Contains (function_numbers a.functions) number → (word : HeaderWord) → word_in a number word ≡ word_in b number word
    words number c word =
        let (s, d, e) = Contains-map_source (λ (s : ℕ × Nodes). s.0) sketches number (subst (λ ns. Contains ns number) x.functions c) in
        let there : Contains sketches (number, s.1) = subst (λ n. Contains sketches (n, s.1)) e d in
        x.words number s.1 there word
        ∙ (ap (λ t. erased_word lattice.names t x.bottom s.1 word) tops
        ∙ (ap (λ u. erased_word lattice.names y.top u s.1 word) bottoms ∙ sym (y.words number s.1 there word)))
