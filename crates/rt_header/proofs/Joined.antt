-- What is declared of one tree after another, and of all.
use Rattle.std.proofs.Common.{◌≡◌, ℕ, suc, ◌+◌, ◌<◌, ◌≤◌, ◌⊎◌, inl, inr, Option, List, [], ◌∷◌, ◌++◌, All, length, map, take, get_or, refl, sym, ap, subst, ◌∙◌, arith, append_assoc, append-nil, length-append}
use Rattle.std.specs.List.{flat_map}
use Rattle.std.specs.List.Sorted.{IsStrictlyIncreasing}
use Rattle.std.proofs.lemmas.List.{get_or_append_left, get_or_push, length-map, length-take-le, map-append, take_all, take_more}
use Rattle.std.proofs.lemmas.List.Elements.{All-nil, All-cons, All-head, All-tail, All-append, All-push, All-weaker}
use Rattle.rt_base.specs.First.{entries}
use Rattle.rt_lines.specs.declared.label.Loc.{Loc}
use Rattle.rt_tree.specs.Trees.{Nodes, Stand}
use Rattle.rt_lattice.specs.Lattices.{NamedOrder, IsBelow, IsLattice, size_of}
use Rattle.rt_lattice.specs.Bounds.{IsTop, IsBottom}
use Rattle.rt_cdecl.specs.declared.declarations.CType.{CType}
use Rattle.rt_cdecl.specs.declared.declarations.CType.TheVariants.{Unused, Scalar, Pointer}
use Rattle.rt_cdecl.specs.declared.declarations.CField.{CField}
use Rattle.rt_cdecl.specs.declared.declarations.CStruct.{CStruct}
use Rattle.rt_cdecl.specs.declared.declarations.CFunction.{CFunction}
use Rattle.rt_cdecl.specs.declared.declarations.Decls.{Decls}
use Rattle.rt_cdecl.specs.Types.{IsField, IsType, IsTypedef}
use Rattle.rt_cdecl.specs.Lines.{HaveSame}
use Rattle.rt_cdecl.specs.Rows.{typedef_text}
use Rattle.rt_cdecl.specs.GoodDecls.{AreAscending, IsArgument, IsFunction, IsGoodDecls, IsStruct, arg_types, function_numbers, function_types, named_types, result_types, struct_numbers, struct_types, used_types}
use Rattle.rt_header.specs.Inside.Built.{Forest, HasMore, IsForest, IsFunctionBuilt, IsMaking, Structs}
use Rattle.rt_header.specs.Inside.Whole.{AreDeclared, AreWhole, HasTypedefs, function_at}
use Rattle.rt_header.specs.Headers.{IsHeaderOf}
use Rattle.rt_header.specs.Inside.Made.{AreMade, struct_at}
use Rattle.rt_header.specs.Met.{AreMet, AreSearched, structs_of_function}
use Rattle.rt_header.proofs.Growing.{function_more, good_function_more, more_chain, more_length}
use Rattle.rt_header.proofs.Heading.{header_of}

-- the structs that one function more is the first to lead to come after all others
pub met_more : (n : ℕ) (structs : List CStruct) (functions : List CFunction) (f : CFunction) (after : ℕ) (own : List CStruct) → AreMet n structs functions →
    Stand (n + length structs) (structs_of_function f) after → AreSearched (n + length structs) after own → AreMet n (structs ++ own) (functions ++ f ∷ [])
met_more n structs [] f after own met stands searched =
    let none : structs ≡ [] = met in
    let here : n + length structs ≡ n = let e = ap length none in omega arith in (
      own,
      [],
      ap (λ (s : List CStruct). s ++ own) none ∙ sym (append-nil own),
      after,
      subst (λ k. Stand k (structs_of_function f) after) here stands,
      subst (λ k. AreSearched k after own) here searched,
      refl,
    )
met_more n structs (g ∷ functions) f after own (first, rest, whole, mid, stand, search, met) stands searched =
    let here : n + length structs ≡ (n + length first) + length rest = let e = ap length whole ∙ length-append first rest in omega arith in (
      first,
      rest ++ own,
      ap (λ (s : List CStruct). s ++ own) whole ∙ append_assoc first rest own,
      mid,
      stand,
      search,
      met_more (n + length first) rest functions f after own met
          (subst (λ k. Stand k (structs_of_function f) after) here stands) (subst (λ k. AreSearched k after own) here searched),
    )

abbrev none : CFunction
none = record { number = 0; args = []; out0 = Unused; out1 = Unused }

-- nothing is declared in the beginning
pub begins : (forest : Forest) (structs : Structs) (numbers : List (Option ℕ)) (made : List CStruct) (functions : List CFunction) →
    IsMaking forest structs numbers → structs ≡ [] → made ≡ [] → functions ≡ [] → AreDeclared forest structs numbers made functions
begins forest structs numbers made functions making empty no_structs no_functions =
    subst (λ (s : List CStruct). AreDeclared forest structs numbers s functions) (sym no_structs)
    (subst (λ (f : List CFunction). AreDeclared forest structs numbers [] f) (sym no_functions) (record {
      making = making;
      are_made = record { few = omega arith; built = λ s less. absurd (omega (arith, less)); good = All-nil (IsStruct (length structs)) };
      all = sym (ap length empty);
      built = λ i less. absurd (omega (arith, less));
      good = All-nil (IsFunction (length structs));
      met = refl;
    }))

-- one function more, and the structs that it leads to
pub goes_on : (forest : Forest) (old mid new : Structs) (numbers last : List (Option ℕ)) (made now : List CStruct) (functions more : List CFunction) (f : CFunction) →
    AreDeclared forest old numbers made functions → more ≡ functions ++ f ∷ [] → HasMore old mid → IsFunctionBuilt forest mid (length functions) f → IsFunction (length mid) f →
    Stand (length old) (structs_of_function f) (length mid) → IsMaking forest new last → HasMore mid new → AreMade forest new now → length now ≡ length new →
    (own : List CStruct) × (now ≡ made ++ own) × AreSearched (length made) (length mid) own → AreDeclared forest new last now more
goes_on forest old mid new numbers last made now functions more f are is first built good stands making second are_made all (own, behind, searched) = record {
  making = making;
  are_made = are_made;
  all = all;
  built = subst (λ (fs : List CFunction). (i : ℕ) → i < length fs → IsFunctionBuilt forest new i (function_at fs i)) (sym is)
      (λ i less. built_at i (split i (let e = length-append functions (f ∷ []) in omega (arith, less))));
  good = subst (All (IsFunction (length new))) (sym is) (All-push (IsFunction (length new)) functions f
      (All-weaker (IsFunction (length old)) (IsFunction (length new)) (λ g h. good_function_more (length old) (length new) g (more_length old new (more_chain old mid new first second)) h) functions are.good)
      (good_function_more (length mid) (length new) f (more_length mid new second) good));
  met = subst (λ (fs : List CFunction). AreMet 0 now fs) (sym is) (subst (λ (s : List CStruct). AreMet 0 s (functions ++ f ∷ [])) (sym behind)
      (met_more 0 made functions f (length mid) own are.met
      (subst (λ k. Stand k (structs_of_function f) (length mid)) (let e = are.all in omega arith) stands)
      (subst (λ k. AreSearched k (length mid) own) (let e = are.all in omega arith) searched)));
}
  where
    split : (i : ℕ) → i < length functions + 1 → (i < length functions) ⊎ (length functions ≡ i)
    split i inside = search arith

    built_at : (i : ℕ) → (i < length functions) ⊎ (length functions ≡ i) → IsFunctionBuilt forest new i (function_at (functions ++ f ∷ []) i)
    built_at i (inl inside) = subst (IsFunctionBuilt forest new i) (sym (get_or_append_left functions (f ∷ []) none i inside))
        (function_more forest old new i (function_at functions i) (more_chain old mid new first second) (are.built i inside))
    built_at i (inr end) = subst (IsFunctionBuilt forest new i) (sym (get_or_push functions f none i end))
        (subst (λ k. IsFunctionBuilt forest new k f) end (function_more forest mid new (length functions) f second built))

-- the numbers of functions so far, and of one more
pub numbers_more : (functions more : List CFunction) (f : CFunction) (number : ℕ) → more ≡ functions ++ f ∷ [] → f.number ≡ number →
    function_numbers more ≡ function_numbers functions ++ number ∷ []
numbers_more functions more f number is same =
    ap function_numbers is ∙ (map-append (λ (g : CFunction). g.number) functions (f ∷ []) ∙ ap (λ n. function_numbers functions ++ n ∷ []) same)

abbrev numbers_of : List (ℕ × Nodes) → List ℕ
numbers_of sketches = map (λ (s : ℕ × Nodes). s.0) sketches

pub numbers_taken : (sketches : List (ℕ × Nodes)) (i : ℕ) (s : ℕ × Nodes) (old new : List ℕ) → i < length sketches → s ≡ get_or sketches i s →
    old ≡ numbers_of (take i sketches) → new ≡ old ++ s.0 ∷ [] → new ≡ numbers_of (take (i + 1) sketches)
numbers_taken sketches i s old new less is before now =
    now ∙ (ap (λ (ns : List ℕ). ns ++ s.0 ∷ []) before ∙ (sym (map-append (λ (t : ℕ × Nodes). t.0) (take i sketches) (s ∷ [])) ∙
    sym (ap numbers_of (take_more sketches i s less ∙ ap (λ (t : ℕ × Nodes). take i sketches ++ t ∷ []) (sym is)))))

-- there is a tree for each function, and one more as long as a sketch is left
trees_count : (forest : Forest) (sketches : List (ℕ × Nodes)) → forest.trees ≡ map (λ (s : ℕ × Nodes). s.1) sketches → length forest.trees ≡ length sketches
trees_count forest sketches trees = ap length trees ∙ length-map sketches (λ (s : ℕ × Nodes). s.1)

functions_count : (functions : List CFunction) (sketches : List (ℕ × Nodes)) → function_numbers functions ≡ numbers_of sketches → length functions ≡ length sketches
functions_count functions sketches same =
    sym (length-map functions (λ (g : CFunction). g.number)) ∙ (ap length same ∙ length-map sketches (λ (t : ℕ × Nodes). t.0))

pub tree_left : (forest : Forest) (functions : List CFunction) (sketches items : List (ℕ × Nodes)) (i : ℕ) → items ≡ sketches → i < length items →
    function_numbers functions ≡ numbers_of (take i sketches) → forest.trees ≡ map (λ (s : ℕ × Nodes). s.1) sketches → length functions < length forest.trees
tree_left forest functions sketches items i same less numbers trees =
    let within : i < length sketches = subst (λ (xs : List (ℕ × Nodes)). i < length xs) same less in
    let count : length functions ≡ i = functions_count functions (take i sketches) numbers ∙ length-take-le i sketches (omega arith) in
    let all : length forest.trees ≡ length sketches = trees_count forest sketches trees in
    omega arith

pub numbers_all : (functions : List CFunction) (sketches items : List (ℕ × Nodes)) (i : ℕ) → items ≡ sketches → length items ≤ i →
    function_numbers functions ≡ numbers_of (take i sketches) → function_numbers functions ≡ numbers_of sketches
numbers_all functions sketches items i same past numbers =
    numbers ∙ ap numbers_of (take_all i sketches (subst (λ (xs : List (ℕ × Nodes)). length xs ≤ i) same past))

pub tree_each : (forest : Forest) (functions : List CFunction) (sketches : List (ℕ × Nodes)) → function_numbers functions ≡ numbers_of sketches →
    forest.trees ≡ map (λ (s : ℕ × Nodes). s.1) sketches → length functions ≡ length forest.trees
tree_each forest functions sketches numbers trees = functions_count functions sketches numbers ∙ sym (trees_count forest sketches trees)

-- all is declared in the end
pub ends : (forest : Forest) (structs : Structs) (numbers : List (Option ℕ)) (made : List CStruct) (functions : List CFunction) → AreDeclared forest structs numbers made functions →
    length functions ≡ length forest.trees → AreWhole forest made functions
ends forest structs numbers made functions are every = record {
  structs = structs;
  built = record {
    are = are.making.are;
    each = are.all;
    built = λ s less. are.are_made.built s (let e = are.all in omega (arith, less));
    one_each = every;
    each_function = are.built;
  };
  few = let less = are.making.few in let e = are.all in omega arith;
  good = subst (λ n. All (IsStruct n) made) (sym are.all) are.are_made.good;
  good_functions = subst (λ n. All (IsFunction n) functions) (sym are.all) are.good;
  met = are.met;
}

-- the types of good parts have lines of their own
typed : (t : CType) → IsType t → All IsTypedef (named_types t)
typed Unused h = All-cons IsTypedef Unused [] tt (All-nil IsTypedef)
typed (Scalar name bits) h = All-cons IsTypedef (Scalar name bits) [] h (All-nil IsTypedef)
typed (Pointer n) h = All-nil IsTypedef

typed_all : {X : Type 0} (P : X → Type 0) (f : X → List CType) → ((x : X) → P x → All IsTypedef (f x)) → (xs : List X) → All P xs → All IsTypedef (flat_map f xs)
typed_all P f each [] h = All-nil IsTypedef
typed_all P f each (x ∷ xs) h = All-append IsTypedef (f x) (flat_map f xs) (each x (All-head P x xs h)) (typed_all P f each xs (All-tail P x xs h))

typed_results : (out0 out1 : CType) → IsType out0 → IsType out1 → All IsTypedef (result_types out0 out1)
typed_results out0 (Scalar name bits) g h = All-append IsTypedef (named_types out0) (Scalar name bits ∷ []) (typed out0 g) (typed (Scalar name bits) h)
typed_results out0 (Pointer n) g h = typed out0 g
typed_results Unused Unused g h = All-nil IsTypedef
typed_results (Scalar name bits) Unused g h = typed (Scalar name bits) g
typed_results (Pointer n) Unused g h = All-nil IsTypedef

typed_args : (args : List (Loc × CType)) → All IsArgument args → All IsTypedef (flat_map named_types (arg_types args))
typed_args [] h = All-nil IsTypedef
typed_args (arg ∷ args) h =
    All-append IsTypedef (named_types arg.1) (flat_map named_types (arg_types args)) (typed arg.1 (All-head IsArgument arg args h).0) (typed_args args (All-tail IsArgument arg args h))

pub typed_whole : (forest : Forest) (made : List CStruct) (functions : List CFunction) → AreWhole forest made functions → All IsTypedef (used_types made functions)
typed_whole forest made functions are =
    All-append IsTypedef (flat_map struct_types made) (flat_map function_types functions)
    (typed_all (IsStruct (length made)) struct_types (λ s good. typed_all IsField (λ (f : CField). named_types f.kind) (λ f h. typed f.kind h.0) s.fields good.fields) made are.good)
    (typed_all (IsFunction (length made)) function_types
    (λ f good. All-append IsTypedef (result_types f.out0 f.out1) (flat_map named_types (arg_types f.args)) (typed_results f.out0 f.out1 good.out0.0 good.out1.0) (typed_args f.args good.args.types))
    functions are.good_functions)

-- declarations with the types that were found
pub with_typedefs : (types : List CType) (structs made : List CStruct) (functions declared : List CFunction) → All IsTypedef types → AreAscending (map typedef_text types) →
    HaveSame types (used_types made declared) → made ≡ structs → declared ≡ functions → HasTypedefs (record { typedefs = types; structs = structs; functions = functions })
with_typedefs types structs made functions declared each rise exact same_structs same_functions = record {
  each = each;
  rise = rise;
  exact = subst (λ (s : List CStruct). HaveSame types (used_types s functions)) same_structs
      (subst (λ (f : List CFunction). HaveSame types (used_types made f)) same_functions exact);
}

-- structs with the numbers of their places
counted : (from : ℕ) (made : List CStruct) → ((s : ℕ) → s < length made → (struct_at made s).number ≡ from + s) → struct_numbers made ≡ entries (λ n. n) from (length made)
counted from [] each = refl
counted from (struct ∷ made) each =
    let here : struct.number ≡ from = each 0 (omega arith) ∙ omega arith in
    let rest : struct_numbers made ≡ entries (λ n. n) (from + 1) (length made) =
    counted (from + 1) made (λ s less. each (suc s) (omega (arith, less)) ∙ omega arith) in
    λ i. here i ∷ rest i

pub good_decls : (forest : Forest) (decls : Decls) → AreWhole forest decls.structs decls.functions → HasTypedefs decls → IsStrictlyIncreasing (function_numbers decls.functions) → IsGoodDecls decls
good_decls forest decls are has rise = record {
  typedefs = has.each;
  typedefs_rise = has.rise;
  exact = has.exact;
  structs = are.good;
  numbered = counted 0 decls.structs (λ s less. (are.built.built s (let e = are.built.each in omega (arith, less))).number ∙ omega arith);
  few = are.few;
  functions = are.good_functions;
  functions_rise = rise;
}

-- the header of sketches
pub record IsHeaded (lattice : NamedOrder) (sketches : List (ℕ × Nodes)) (decls : Decls) : Type 0 where
  pub good : IsGoodDecls decls
  pub header : IsHeaderOf lattice sketches decls

pub headed : (forest : Forest) (lattice : NamedOrder) (sketches : List (ℕ × Nodes)) (decls : Decls) (structs : List CStruct) (functions : List CFunction) →
    AreWhole forest structs functions → decls.structs ≡ structs → decls.functions ≡ functions → HasTypedefs decls → IsForest forest → forest.names ≡ lattice.names →
    forest.trees ≡ map (λ (s : ℕ × Nodes). s.1) sketches → IsTop (IsBelow lattice) (size_of lattice) forest.erased.extremes.top →
    IsBottom (IsBelow lattice) (size_of lattice) forest.erased.extremes.bottom → IsLattice lattice → IsStrictlyIncreasing (map (λ (s : ℕ × Nodes). s.0) sketches) →
    function_numbers functions ≡ map (λ (s : ℕ × Nodes). s.0) sketches → IsHeaded lattice sketches decls
headed forest lattice sketches decls structs functions are same_structs same_functions has is names trees top bottom is_lattice rise numbers =
    let whole : AreWhole forest decls.structs decls.functions =
    subst (λ (s : List CStruct). AreWhole forest s decls.functions) (sym same_structs) (subst (λ (f : List CFunction). AreWhole forest structs f) (sym same_functions) are) in
    let numbered : function_numbers decls.functions ≡ map (λ (s : ℕ × Nodes). s.0) sketches = ap function_numbers same_functions ∙ numbers in
    let good : IsGoodDecls decls = good_decls forest decls whole has (subst IsStrictlyIncreasing (sym numbered) rise) in
    record {
      good = good;
      header = header_of forest whole.structs lattice sketches decls is names trees top bottom is_lattice rise numbered whole.built good whole.met;
    }
