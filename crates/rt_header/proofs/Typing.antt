-- Functions of trees.
use Rattle.std.proofs.Common.{◌≡◌, ℕ, zero, suc, ◌+◌, ◌-◌, ◌<◌, ◌≤◌, ◌⊎◌, inl, inr, Bool, true, false, Option, Some, None, List, [], ◌∷◌, ◌++◌, All, length, map, get_or, refl, sym, ap, subst, ◌∙◌, arith, append_assoc}
use Rattle.std.specs.Prelude.{IfSome, IsSome, unwrap_or}
use Rattle.std.specs.List.{flat_map}
use Rattle.std.specs.Map.{lookup}
use Rattle.std.specs.Option.{option_and_then}
use Rattle.std.proofs.lemmas.Bool.{cases_order, false≢true}
use Rattle.std.proofs.lemmas.List.{get_or-append-add, get_or_append_left, get_or_past, get_or-map, length-append, length-map}
use Rattle.std.proofs.lemmas.List.Elements.{All-cons, All-push, All-weaker}
use Rattle.std.proofs.lemmas.List.{append-nil}
use Rattle.rt_lines.specs.declared.label.Loc.{Loc}
use Rattle.rt_lines.specs.declared.label.Label.{Label}
use Rattle.rt_lines.specs.declared.label.Label.TheVariants.{In, Out}
use Rattle.rt_lines.specs.Words.{IsLabel, IsLoc}
use Rattle.rt_lines.specs.Equality.{label_eq}
use Rattle.rt_tree.specs.Trees.{IsEdge, IsNode, IsTree, Nodes, Stand, node_at, step_of}
use Rattle.rt_tree.proofs.Words.{step_in}
use Rattle.rt_tree.proofs.Alike.{at_node, edges_of}
use Rattle.rt_tree.proofs.Edges.{found_has}
use Rattle.rt_texts.specs.Goods.{IsNumber}
use Rattle.rt_cdecl.specs.declared.declarations.CType.{CType}
use Rattle.rt_cdecl.specs.declared.declarations.CType.TheVariants.{Unused, Scalar, Pointer}
use Rattle.rt_cdecl.specs.declared.declarations.CFunction.{CFunction}
use Rattle.rt_cdecl.specs.Types.{IsPresent, IsWide}
use Rattle.rt_cdecl.specs.GoodDecls.{AreArgs, ArePlaced, IsArgument, IsFunction, IsLastPresent, LeadsBelow, arg_types, place_of}
use Rattle.rt_header.specs.Inside.Built.{Forest, HasMore, IsForest, IsFunctionBuilt, IsNodeOf, IsPortOf, IsTypeOf, Structs, tree_of, used, unused}
use Rattle.rt_header.specs.Met.{struct_in, structs_of_function}
use Rattle.rt_header.specs.Inside.Ports.{AreArguments, AreNodesOf, AreTyped, IsPortType, argument_in, index_of, no_argument, structs_of_arguments}
use Rattle.rt_header.proofs.Growing.{leads_more, more_length, port_more, stand_append, type_more}
use Rattle.rt_header.proofs.Porting.{place_index}

pub some_node : {P : ℕ → Type 0} (o : Option ℕ) → ((n : ℕ) → o ≡ Some n → P n) → IfSome o P
some_node None h = tt
some_node (Some n) h = h n refl

-- types of ports are kept when structs grow
pub port_type_more : (forest : Forest) (old new : Structs) (i : ℕ) (o : Option ℕ) (t : CType) → HasMore old new → IsPortType forest old i o t → IsPortType forest new i o t
port_type_more forest old new i None t more is = is
port_type_more forest old new i (Some n) t more is = (type_more forest old new i 32 n t more is.0, is.1)

types_push : (args : List (Loc × CType)) (arg : Loc × CType) → arg_types (args ++ arg ∷ []) ≡ arg_types args ++ arg.1 ∷ []
types_push [] arg = refl
types_push (first ∷ args) arg = ap (λ ts. first.1 ∷ ts) (types_push args arg)

structs_append : (xs ys : List CType) → flat_map struct_in (xs ++ ys) ≡ flat_map struct_in xs ++ flat_map struct_in ys
structs_append [] ys = refl
structs_append (x ∷ xs) ys = ap (λ zs. struct_in x ++ zs) (structs_append xs ys) ∙ sym (append_assoc (struct_in x) (flat_map struct_in xs) (flat_map struct_in ys))

-- one argument more
pub typed_next : (forest : Forest) (mid new : Structs) (i : ℕ) (nodes : List (Option ℕ)) (k : ℕ) (args : List (Loc × CType)) (loc : Loc) (t : CType) → HasMore mid new
    → AreTyped forest mid i nodes k args → loc ≡ place_of k → IsPortType forest new i (get_or nodes k None) t → IsWide t → LeadsBelow (length new) t
    → AreTyped forest new i nodes (k + 1) (args ++ (loc, t) ∷ [])
typed_next forest mid new i nodes k args loc t more typed at is wide leads = record {
  each = length-append args ((loc, t) ∷ []) ∙ ap (λ n. n + 1) typed.each;
  places = λ j less. places j less (cases_order j k);
  types = λ j less. types j less (cases_order j k);
  good = All-push IsArgument args (loc, t) typed.good wide;
  lead = subst (All (LeadsBelow (length new))) (sym (types_push args (loc, t))) (All-push (LeadsBelow (length new)) (arg_types args) t
      (All-weaker (LeadsBelow (length mid)) (LeadsBelow (length new)) (λ u l. leads_more (length mid) (length new) u (more_length mid new more) l) (arg_types args) typed.lead) leads);
}
  where
    last : get_or (args ++ (loc, t) ∷ []) k no_argument ≡ (loc, t)
    last = ap (λ n. get_or (args ++ (loc, t) ∷ []) n no_argument) (sym typed.each ∙ let e : length args ≡ length args + 0 = omega arith in e) ∙ get_or-append-add args ((loc, t) ∷ []) 0 no_argument

    before : (j : ℕ) → j < k → get_or (args ++ (loc, t) ∷ []) j no_argument ≡ get_or args j no_argument
    before j h = get_or_append_left args ((loc, t) ∷ []) no_argument j (let e = typed.each in omega (arith, e, h))

    places : (j : ℕ) → j < k + 1 → (j ≡ k) ⊎ ((j < k) ⊎ (k < j)) → (get_or (args ++ (loc, t) ∷ []) j no_argument).0 ≡ place_of j
    places j less (inl e) = ap (λ n. (get_or (args ++ (loc, t) ∷ []) n no_argument).0) e ∙ (ap (λ (a : Loc × CType). a.0) last ∙ (at ∙ ap place_of (sym e)))
    places j less (inr (inl h)) = ap (λ (a : Loc × CType). a.0) (before j h) ∙ typed.places j h
    places j less (inr (inr g)) = absurd (omega (arith, less, g))

    types : (j : ℕ) → j < k + 1 → (j ≡ k) ⊎ ((j < k) ⊎ (k < j)) → IsPortType forest new i (get_or nodes j None) (get_or (args ++ (loc, t) ∷ []) j no_argument).1
    types j less (inl e) =
        subst (λ n. IsPortType forest new i (get_or nodes n None) (get_or (args ++ (loc, t) ∷ []) n no_argument).1) (sym e)
        (subst (IsPortType forest new i (get_or nodes k None)) (sym (ap (λ (a : Loc × CType). a.1) last)) is)
    types j less (inr (inl h)) =
        subst (IsPortType forest new i (get_or nodes j None)) (sym (ap (λ (a : Loc × CType). a.1) (before j h)))
        (port_type_more forest mid new i (get_or nodes j None) (get_or args j no_argument).1 more (typed.types j h))
    types j less (inr (inr g)) = absurd (omega (arith, less, g))

-- what the pointers of arguments with one more lead to
pub arguments_stand : (before mid after : ℕ) (args : List (Loc × CType)) (loc : Loc) (t : CType) → Stand before (structs_of_arguments args) mid → Stand mid (struct_in t) after
    → Stand before (structs_of_arguments (args ++ (loc, t) ∷ [])) after
arguments_stand before mid after args loc t first second =
    subst (λ ns. Stand before ns after) (sym (ap (flat_map struct_in) (types_push args (loc, t)) ∙ (structs_append (arg_types args) (t ∷ []) ∙
    ap (λ ns. structs_of_arguments args ++ ns) (append-nil (struct_in t)))))
    (stand_append before mid after (structs_of_arguments args) (struct_in t) first second)

-- what the pointers of a function lead to
pub function_stands : (before first second after : ℕ) (f : CFunction) → Stand before (structs_of_arguments f.args) first → Stand first (struct_in f.out0) second → Stand second (struct_in f.out1) after
    → Stand before (structs_of_function f) after
function_stands before first second after f a b c =
    subst (λ ns. Stand before ns after) (sym (structs_append (arg_types f.args) (f.out0 ∷ f.out1 ∷ [])))
    (stand_append before first after (structs_of_arguments f.args) (struct_in f.out0 ++ (struct_in f.out1 ++ [])) a
    (stand_append first second after (struct_in f.out0) (struct_in f.out1 ++ []) b (subst (λ ns. Stand second ns after) (sym (append-nil (struct_in f.out1))) c)))

-- arguments at their places
placed : (args : List (Loc × CType)) (first : ℕ) → ((j : ℕ) → j < length args → (get_or args j no_argument).0 ≡ place_of (first + j)) → ArePlaced first args
placed [] first at = tt
placed (arg ∷ args) first at =
    (at 0 (omega arith) ∙ ap place_of (omega arith), placed args (first + 1) (λ j less. at (suc j) (omega (arith, less)) ∙ ap place_of (omega arith)))

last_present : (ts : List CType) → ((j : ℕ) → j + 1 ≡ length ts → IsPresent (get_or ts j Unused)) → IsLastPresent ts
last_present [] h = tt
last_present (t ∷ []) h = h 0 refl
last_present (t ∷ next ∷ ts) h = last_present (next ∷ ts) (λ j e. h (suc j) (omega (arith, e)))

port_of : (forest : Forest) (structs : Structs) (i : ℕ) (l : Label) (o : Option ℕ) (t : CType) → o ≡ step_of (tree_of forest i) 0 l → IsPortType forest structs i o t → IsPortOf forest structs i l t
port_of forest structs i l None t e is = subst (IsPortOf forest structs i l) (sym is) (unused (sym e))
port_of forest structs i l (Some n) t e is = used n t (sym e) is.0

module _ (forest : Forest) (is : IsForest forest) (i : ℕ) (less : i < length forest.trees) (edges : List (Label × ℕ)) (are : edges ≡ (node_at (tree_of forest i) 0).edges) where
  whole : IsTree (tree_of forest i)
  whole = (is.trees i less).0

  root_step : (l : Label) → lookup (label_eq l) edges ≡ step_of (tree_of forest i) 0 l
  root_step l = ap (lookup (label_eq l)) are ∙ sym (at_node (tree_of forest i) 0 l whole.rooted)

  root_node : (l : Label) (n : ℕ) → lookup (label_eq l) edges ≡ Some n → IsNodeOf forest i n
  root_node l n e = record { tree = less; node = step_in (tree_of forest i) whole.nodes 0 n l (sym (root_step l) ∙ e) }

  -- nodes of arguments and results are nodes of the tree
  pub nodes_are : (nodes : List (Option ℕ)) → AreArguments edges nodes → AreNodesOf forest i nodes
  nodes_are nodes arguments j n e = root_node (In (place_of j)) n (sym (arguments.each j) ∙ e)

  pub result_is : (o : Option ℕ) (r : ℕ) → o ≡ lookup (label_eq (Out r)) edges → IfSome o (IsNodeOf forest i)
  result_is o r e = some_node o (λ n f. root_node (Out r) n (sym e ∙ f))

  -- each argument of the tree has its place
  all_there : (nodes : List (Option ℕ)) → AreArguments edges nodes → (loc : Loc) → IsSome (step_of (tree_of forest i) 0 (In loc))
      → (j : ℕ) × (j < length nodes) × (place_of j ≡ loc)
  all_there nodes arguments loc there = by (step_of (tree_of forest i) 0 (In loc)) refl there
    where
      by : (o : Option ℕ) → o ≡ step_of (tree_of forest i) 0 (In loc) → IsSome o → (j : ℕ) × (j < length nodes) × (place_of j ≡ loc)
      by None e h = absurd (false≢true h)
      by (Some n) e h =
          let good = edges_of (tree_of forest i) whole.nodes 0 whole.rooted in
          let found : lookup (label_eq (In loc)) (node_at (tree_of forest i) 0).edges ≡ Some n = sym (at_node (tree_of forest i) 0 (In loc) whole.rooted) ∙ sym e in
          let is_loc : IsLoc loc = (found_has (IsEdge (length (tree_of forest i))) (In loc) n (node_at (tree_of forest i) 0).edges good.each found).0 in
          let at : place_of (index_of loc) ≡ loc = place_index loc is_loc in
          let has : get_or nodes (index_of loc) None ≡ Some n = arguments.each (index_of loc) ∙ (ap (λ l. lookup (label_eq (In l)) edges) at ∙ (root_step (In loc) ∙ sym e)) in
          (index_of loc, inside (index_of loc) n has, at)
        where
          inside : (j n : ℕ) → get_or nodes j None ≡ Some n → j < length nodes
          inside j n e = by_order (cases_order j (length nodes))
            where
              some_none : (n : ℕ) → None ≡ Some n → ⊥
              some_none n e = cc

              by_order : (j ≡ length nodes) ⊎ ((j < length nodes) ⊎ (length nodes < j)) → j < length nodes
              by_order (inl f) = absurd (some_none n (sym (get_or_past nodes j None (omega (arith, f))) ∙ e))
              by_order (inr (inl h)) = h
              by_order (inr (inr g)) = absurd (some_none n (sym (get_or_past nodes j None (omega (arith, g))) ∙ e))

  -- the function that arguments and results make
  pub function_built : (first second last : Structs) (nodes : List (Option ℕ)) (f : CFunction) (o0 o1 : Option ℕ) → AreArguments edges nodes
      → AreTyped forest first i nodes (length nodes) f.args → HasMore first last
      → o0 ≡ lookup (label_eq (Out 0)) edges → IsPortType forest second i o0 f.out0 → HasMore second last
      → o1 ≡ lookup (label_eq (Out 1)) edges → IsPortType forest last i o1 f.out1 → IsFunctionBuilt forest last i f
  function_built first second last nodes f o0 o1 arguments typed more0 at0 is0 more1 at1 is1 = record {
    places = λ j h. typed.places j (let e = typed.each in omega (arith, e, h));
    args = λ j h. let less_j : j < length nodes = let e = typed.each in omega (arith, e, h) in
        port_more forest first last i (In (place_of j)) (get_or f.args j no_argument).1 more0
        (port_of forest first i (In (place_of j)) (get_or nodes j None) (get_or f.args j no_argument).1 (arguments.each j ∙ root_step (In (place_of j))) (typed.types j less_j));
    all = λ loc there. let (j, h, at) = all_there nodes arguments loc there in (j, let e = typed.each in omega (arith, e, h), at);
    out0 = port_more forest second last i (Out 0) f.out0 more1 (port_of forest second i (Out 0) o0 f.out0 (at0 ∙ root_step (Out 0)) is0);
    out1 = port_of forest last i (Out 1) o1 f.out1 (at1 ∙ root_step (Out 1)) is1;
  }

  -- it is well formed
  pub function_good : (first second last : Structs) (nodes : List (Option ℕ)) (f : CFunction) → AreArguments edges nodes → IsNumber f.number
      → AreTyped forest first i nodes (length nodes) f.args → HasMore first last → IsWide f.out0 → LeadsBelow (length second) f.out0 → HasMore second last
      → IsWide f.out1 → LeadsBelow (length last) f.out1 → IsFunction (length last) f
  function_good first second last nodes f arguments number typed more0 wide0 lead0 more1 wide1 lead1 = record {
    number = number;
    args = record {
      places = placed f.args 0 (λ j h. typed.places j (let e = typed.each in omega (arith, e, h)) ∙ ap place_of (omega arith));
      few = let e = typed.each in let b = arguments.few in omega (arith, e, b);
      types = typed.good;
      used = last_present (arg_types f.args) (λ j e. present j (let l = length-map f.args (λ (a : Loc × CType). a.1) in let t = typed.each in omega (arith, e, l, t)));
    };
    out0 = wide0;
    out1 = wide1;
    lead = All-cons (LeadsBelow (length last)) f.out0 (f.out1 ∷ arg_types f.args) (leads_more (length second) (length last) f.out0 (more_length second last more1) lead0)
        (All-cons (LeadsBelow (length last)) f.out1 (arg_types f.args) lead1
        (All-weaker (LeadsBelow (length first)) (LeadsBelow (length last)) (λ u l. leads_more (length first) (length last) u (more_length first last more0) l) (arg_types f.args) typed.lead));
  }
    where
      present : (j : ℕ) → j + 1 ≡ length nodes → IsPresent (get_or (arg_types f.args) j Unused)
      present j e =
          let less_j : j < length nodes = omega (arith, e) in
          subst IsPresent (sym (get_or-map (λ (a : Loc × CType). a.1) f.args j no_argument Unused (let t = typed.each in omega (arith, t, less_j))))
          (by (get_or nodes j None) (arguments.last j e) (typed.types j less_j))
        where
          by : (o : Option ℕ) → IsSome o → IsPortType forest first i o (get_or f.args j no_argument).1 → IsPresent (get_or f.args j no_argument).1
          by None h p = absurd (false≢true h)
          by (Some n) h p = p.1
