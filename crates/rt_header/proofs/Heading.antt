-- Declarations that are built of trees are their header.
use Rattle.std.proofs.Common.{◌≡◌, ℕ, zero, suc, ◌-◌, ◌*◌, ◌<◌, ◌≤◌, ◌/◌, ◌⊎◌, ◌==◌, inl, inr, Bool, true, false, cond, nat_lt, Option, Some, None, List, [], ◌∷◌, map, length, get_or, refl, sym, ap, subst, ◌∙◌, arith}
use Rattle.std.specs.Prelude.{Contains, find, slice_index_or}
use Rattle.std.specs.List.Sorted.{IsStrictlyIncreasing}
use Rattle.std.specs.Map.{lookup}
use Rattle.std.proofs.lemmas.Bool.{cases_order, eq-eqb, ltb-false}
use Rattle.std.proofs.lemmas.List.{get_or-map, get_or_default, length-map}
use Rattle.std.proofs.lemmas.List.Elements.{All-get_or, All-weaker}
use Rattle.std.proofs.lemmas.List.Kept.{AllPairs-from_increasing}
use Rattle.rt_base.proofs.Lists.{Contains-map_source}
use Rattle.rt_lines.specs.declared.label.Loc.{Loc}
use Rattle.rt_lines.specs.declared.label.Loc.TheVariants.{Arg, Stack}
use Rattle.rt_lines.specs.Equality.{loc_eq}
use Rattle.rt_lines.specs.Names.{AreNames}
use Rattle.rt_lattice.specs.Lattices.{NamedOrder, IsBelow, IsLattice, size_of}
use Rattle.rt_lattice.specs.Bounds.{IsTop, IsBottom}
use Rattle.rt_tree.specs.Trees.{Nodes}
use Rattle.rt_cdecl.specs.declared.declarations.CType.{CType}
use Rattle.rt_cdecl.specs.declared.declarations.CType.TheVariants.{Unused, Scalar, Pointer}
use Rattle.rt_cdecl.specs.declared.declarations.CField.{CField}
use Rattle.rt_cdecl.specs.declared.declarations.CStruct.{CStruct}
use Rattle.rt_cdecl.specs.declared.declarations.CFunction.{CFunction}
use Rattle.rt_cdecl.specs.declared.declarations.Decls.{Decls}
use Rattle.rt_cdecl.specs.Types.{bits_of, IsField, IsPresent, IsType}
use Rattle.rt_cdecl.specs.GoodDecls.{IsGoodDecls, IsStruct, arg_types, function_numbers, place_of}
use Rattle.rt_cdecl.specs.HeaderWords.{HeaderWord, function_of, word_in}
use Rattle.rt_header.specs.Erased.{word_in as erased_word}
use Rattle.rt_header.specs.Headers.{IsHeaderOf}
use Rattle.rt_header.specs.Met.{IsFirstMet}
use Rattle.rt_header.specs.Inside.Built.{Forest, Structs, IsForest, IsFunctionBuilt, AreBuilt, tree_of}
use Rattle.rt_header.proofs.Telling as telling
use Rattle.rt_header.proofs.Telling.{none_found, found}
use Rattle.rt_header.proofs.Apart as separate
use Rattle.rt_header.proofs.Reached.{met_reached}
use Rattle.rt_base.proofs.Numbers.{apart}

-- a function of a number that rises is found
pub find_ascending : (d : CFunction) (functions : List CFunction) (i : ℕ) → i < length functions
    → ((j : ℕ) → j < i → (get_or functions j d).number < (get_or functions i d).number)
    → find (λ (f : CFunction). f.number == (get_or functions i d).number) functions ≡ Some (get_or functions i d)
find_ascending d [] i less rise = absurd (omega (arith, less))
find_ascending d (f ∷ functions) zero less rise =
    ap (λ b. cond b (Some f) (find (λ (g : CFunction). g.number == f.number) functions)) (eq-eqb f.number f.number refl)
find_ascending d (f ∷ functions) (suc i) less rise =
    ap (λ b. cond b (Some f) (find (λ (g : CFunction). g.number == (get_or functions i d).number) functions))
    (apart f.number (get_or functions i d).number (λ e. let l = rise 0 (omega arith) in omega (arith, e, l))) ∙
    find_ascending d functions i (omega (arith, less)) (λ j h. rise (suc j) (omega (arith, h)))

-- places differ
pub place_one : (i j : ℕ) → place_of i ≡ place_of j → i ≡ j
place_one i j e = by (nat_lt i 8) refl (nat_lt j 8) refl e
  where
    register : Loc → ℕ
    register (Arg n) = n
    register (Stack k) = 0

    word : Loc → ℕ
    word (Arg n) = 0
    word (Stack k) = k

    is_register : Loc → Bool
    is_register (Arg n) = true
    is_register (Stack k) = false

    true_false : true ≡ false → ⊥
    true_false e = cc

    by : (a : Bool) → a ≡ nat_lt i 8 → (b : Bool) → b ≡ nat_lt j 8 → cond a (Arg i) (Stack (4 * (i - 8))) ≡ cond b (Arg j) (Stack (4 * (j - 8))) → i ≡ j
    by true a true b e = ap register e
    by true a false b e = absurd (true_false (ap is_register e))
    by false a true b e = absurd (true_false (sym (ap is_register e)))
    by false a false b e =
        let h = ap word e in
        let p : 8 ≤ i = past i (sym a) in
        let q : 8 ≤ j = past j (sym b) in
        omega (arith, h, p, q)
      where
        past : (k : ℕ) → nat_lt k 8 ≡ false → 8 ≤ k
        past k f = ltb-false k 8 f

module _ (forest : Forest) (structs : Structs) (lattice : NamedOrder) (sketches : List (ℕ × Nodes)) (decls : Decls)
    (is : IsForest forest) (names : forest.names ≡ lattice.names) (trees : forest.trees ≡ map (λ (s : ℕ × Nodes). s.1) sketches)
    (top : IsTop (IsBelow lattice) (size_of lattice) forest.erased.extremes.top) (bottom : IsBottom (IsBelow lattice) (size_of lattice) forest.erased.extremes.bottom)
    (is_lattice : IsLattice lattice) (rise : IsStrictlyIncreasing (map (λ (s : ℕ × Nodes). s.0) sketches))
    (numbers : function_numbers decls.functions ≡ map (λ (s : ℕ × Nodes). s.0) sketches)
    (built : AreBuilt forest structs decls.structs decls.functions) (good : IsGoodDecls decls) (met : IsFirstMet decls) where
  abbrev no_function : CFunction
  no_function = record { number = 0; args = []; out0 = Unused; out1 = Unused }

  abbrev no_struct : CStruct
  no_struct = record { number = 0; fields = [] }

  few : (i : ℕ) → i < length decls.functions → i < length forest.trees
  few i less = let e = built.one_each in omega (arith, e, less)

  -- a function is found by its number
  called_at : (i : ℕ) → i < length decls.functions → function_of decls (get_or decls.functions i no_function).number ≡ Some (get_or decls.functions i no_function)
  called_at i less = find_ascending no_function decls.functions i less (λ j h.
      let pairs = AllPairs-from_increasing (function_numbers decls.functions) good.functions_rise j i 0 h (subst (λ n. i < n) (sym (length-map decls.functions (λ (f : CFunction). f.number))) less) in
      subst (λ a. a < (get_or decls.functions i no_function).number) (number_at j (omega (arith, h, less)))
      (subst (λ b. get_or (function_numbers decls.functions) j 0 < b) (number_at i less) pairs))
    where
      number_at : (k : ℕ) → k < length decls.functions → get_or (function_numbers decls.functions) k 0 ≡ (get_or decls.functions k no_function).number
      number_at k h = get_or-map (λ (f : CFunction). f.number) decls.functions k no_function 0 h

  called : (f : CFunction) → Contains decls.functions f → function_of decls f.number ≡ Some f
  called f (i, less, e) =
      let same : get_or decls.functions i no_function ≡ f = get_or_default decls.functions i no_function f less ∙ e in
      subst (λ g. function_of decls g.number ≡ Some g) same (called_at i less)

  -- an argument is found by its place
  passed : (f : CFunction) → Contains decls.functions f → (t : CType) → Contains (arg_types f.args) t → (loc : Loc) × (lookup (loc_eq loc) f.args ≡ Some t)
  passed f (i, less, e) t c =
      let (arg, (j, below, at), is_t) = Contains-map_source (λ (a : Loc × CType). a.1) f.args t c in
      let same : get_or decls.functions i no_function ≡ f = get_or_default decls.functions i no_function f less ∙ e in
      let made : IsFunctionBuilt forest structs i f = subst (IsFunctionBuilt forest structs i) same (built.each_function i less) in (
        place_of j,
        by j below arg (get_or_default f.args j (place_of 0, Unused) arg below ∙ at) is_t (lookup (loc_eq (place_of j)) f.args) refl
            (telling.argument forest is structs decls built 0 (place_of j) f.args (λ k h. made.places k h ∙ ap place_of (omega arith))),
      )
    where
      by : (j : ℕ) → j < length f.args → (arg : Loc × CType) → get_or f.args j (place_of 0, Unused) ≡ arg → arg.1 ≡ t → (o : Option CType)
          → o ≡ lookup (loc_eq (place_of j)) f.args → telling.IsFound forest is structs decls built 0 (place_of j) f.args o → lookup (loc_eq (place_of j)) f.args ≡ Some t
      by j below arg at is_t None o (none_found never) = absurd (never j below (ap place_of (omega arith)))
      by j below arg at is_t (Some u) o (found k h here) =
          sym o ∙ ap Some (ap (λ n. (get_or f.args n (place_of 0, Unused)).1) (place_one k j (ap place_of (omega arith) ∙ here)) ∙ (ap (λ (a : Loc × CType). a.1) at ∙ is_t))

  -- widths of fields
  wide_field : (f : CField) → IsField f → 0 < bits_of f.kind / 8
  wide_field f (is_type, is_present, less) = by f.kind is_type is_present
    where
      by : (t : CType) → IsType t → IsPresent t → 0 < bits_of t / 8
      by Unused a b = absurd b
      by (Scalar name bits) (spelled, inl e) b = subst (λ n. 0 < n / 8) (sym e) (omega arith)
      by (Scalar name bits) (spelled, inr (inl e)) b = subst (λ n. 0 < n / 8) (sym e) (omega arith)
      by (Scalar name bits) (spelled, inr (inr e)) b = subst (λ n. 0 < n / 8) (sym e) (omega arith)
      by (Pointer n) a b = omega arith

  struct_at : (s : ℕ) → s < length decls.structs → IsStruct (length decls.structs) (get_or decls.structs s no_struct)
  struct_at s less = All-get_or (IsStruct (length decls.structs)) decls.structs s no_struct less good.structs

  distinct : (j k : ℕ) → j < length forest.names → k < length forest.names → slice_index_or forest.names j [] ≡ slice_index_or forest.names k [] → j ≡ k
  distinct j k a b e = by (cases_order j k)
    where
      named : AreNames lattice.names
      named = is_lattice.named

      e' : slice_index_or lattice.names j [] ≡ slice_index_or lattice.names k []
      e' = subst (λ (n : List (List ℕ)). slice_index_or n j [] ≡ slice_index_or n k []) names e

      long : length forest.names ≡ length lattice.names
      long = ap length names

      by : (j ≡ k) ⊎ ((j < k) ⊎ (k < j)) → j ≡ k
      by (inl f) = f
      by (inr (inl l)) = absurd (named.distinct j k [] l (omega (arith, b, long)) e')
      by (inr (inr g)) = absurd (named.distinct k j [] g (omega (arith, a, long)) (sym e'))

  -- the words of a sketch
  words : (number : ℕ) (tree : Nodes) → Contains sketches (number, tree) → (word : HeaderWord) →
      word_in decls number word ≡ erased_word lattice.names forest.erased.extremes.top forest.erased.extremes.bottom tree word
  words number tree (i, less, e) word =
      let long : length decls.functions ≡ length sketches =
      sym (length-map decls.functions (λ (f : CFunction). f.number)) ∙ (ap length numbers ∙ length-map sketches (λ (s : ℕ × Nodes). s.0)) in
      let within : i < length decls.functions = omega (arith, less, long) in
      let f : CFunction = get_or decls.functions i no_function in
      let at : get_or sketches i (0, []) ≡ (number, tree) = get_or_default sketches i (0, []) (number, tree) less ∙ e in
      let same : f.number ≡ number =
      sym (get_or-map (λ (g : CFunction). g.number) decls.functions i no_function 0 within) ∙ (ap (λ ns. get_or ns i 0) numbers ∙
      (get_or-map (λ (s : ℕ × Nodes). s.0) sketches i (0, []) 0 less ∙ ap (λ (s : ℕ × Nodes). s.0) at)) in
      let of : tree_of forest i ≡ tree =
      ap (λ ts. get_or ts i []) trees ∙ (get_or-map (λ (s : ℕ × Nodes). s.1) sketches i (0, []) [] less ∙ ap (λ (s : ℕ × Nodes). s.1) at) in
      telling.words_agree forest is structs decls built i (few i within) f (built.each_function i within) number
      (subst (λ n. function_of decls n ≡ Some f) same (called_at i within)) word ∙
      (ap (λ ns. erased_word ns forest.erased.extremes.top forest.erased.extremes.bottom (tree_of forest i) word) names ∙
      ap (λ t. erased_word lattice.names forest.erased.extremes.top forest.erased.extremes.bottom t word) of)

  pub header_of : IsHeaderOf lattice sketches decls
  header_of = record {
    top = forest.erased.extremes.top;
    is_top = top;
    bottom = forest.erased.extremes.bottom;
    is_bottom = bottom;
    functions = numbers;
    words = words;
    reached = met_reached decls (λ s less. telling.struct_found forest is structs decls built s (let e = built.each in omega (arith, e, less)))
        (λ s less. (struct_at s less).fit) (λ s less. All-weaker IsField (λ (f : CField). 0 < bits_of f.kind / 8) wide_field (get_or decls.structs s no_struct).fields (struct_at s less).fields)
        called passed 0 decls.structs decls.functions met (λ f c. c) (λ m less. absurd (omega (arith, less))) (omega arith) (λ k less. ap (λ n. get_or decls.structs n no_struct) (omega arith));
    apart = λ m n less less' tells. separate.apart forest is structs decls built distinct m n
        (let e = built.each in omega (arith, e, less)) (let e = built.each in omega (arith, e, less')) tells;
    met = met;
  }
