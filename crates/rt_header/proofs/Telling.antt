-- What declarations tell of words, and what the trees tell that they are of.
use Rattle.std.proofs.Common.{◌≡◌, ℕ, zero, suc, ◌+◌, ◌<◌, ◌≤◌, ◌==◌, ◌&&◌, ℤ, pos, negsuc, Bool, true, false, cond, Option, Some, None, List, [], ◌∷◌, length, get_or, refl, sym, ap, subst, ◌∙◌, arith}
use Rattle.std.specs.Prelude.{IsSome, is_some, slice_get, slice_index, slice_index_or, unwrap_or, find}
use Rattle.std.specs.Ordering.{int_eq}
use Rattle.std.specs.Map.{lookup}
use Rattle.std.specs.Option.{option_map, option_and_then}
use Rattle.std.specs.Prelude.{All, not}
use Rattle.std.proofs.lemmas.Bool.{and_parts, eq-eqb, eqb-true, false≢true}
use Rattle.std.proofs.lemmas.Bool.Decides.{Decides-int_eq, same_from_decides}
use Rattle.std.proofs.lemmas.Option.{slice_get-get_or, same_Some, none-some}
use Rattle.std.proofs.lemmas.List.Elements.{All-head, All-tail}
use Rattle.rt_lines.specs.declared.label.Loc.{Loc}
use Rattle.rt_lines.specs.declared.label.Label.{Label}
use Rattle.rt_lines.specs.declared.label.Label.TheVariants.{In, Out, Load, Store, Field}
use Rattle.rt_lines.specs.Words.{IsLabel}
use Rattle.rt_lines.specs.Equality.{loc_eq}
use Rattle.rt_lines.proofs.Equal.{loc_equal}
use Rattle.rt_lines.specs.contracts.label.LocEq.TheImpl.Laws as loc_laws
use Rattle.rt_tree.specs.Trees.{AreLike, IsEdge, IsNode, IsTree, Node, Nodes, edge_of, leaf, marks_from, marks_of, node_at, step_of, walk}
use Rattle.rt_tree.specs.Partitions.{IsGraph}
use Rattle.rt_tree.proofs.Words.{leads, marked, node_of, step_in, then_some}
use Rattle.rt_tree.proofs.Alike.{like_marks}
use Rattle.rt_tree.proofs.Edges.{found_has}
use Rattle.rt_erase.specs.declared.row.Row.{Row}
use Rattle.rt_erase.specs.Rows.{IsRow, fields_of, first_some, is_pointer, pointee_of, row_at, scalar_number}
use Rattle.rt_erase.proofs.Kept.{fields_rows}
use Rattle.rt_erase.specs.Erasures.{target_of, erased_step}
use Rattle.rt_cdecl.specs.declared.declarations.CType.{CType}
use Rattle.rt_cdecl.specs.declared.declarations.CType.TheVariants.{Unused, Scalar, Pointer}
use Rattle.rt_cdecl.specs.declared.declarations.CField.{CField}
use Rattle.rt_cdecl.specs.declared.declarations.CStruct.{CStruct}
use Rattle.rt_cdecl.specs.declared.declarations.CFunction.{CFunction}
use Rattle.rt_cdecl.specs.declared.declarations.Decls.{Decls}
use Rattle.rt_cdecl.specs.Types.{IsPresent, bits_of}
use Rattle.rt_cdecl.specs.GoodDecls.{place_of}
use Rattle.rt_cdecl.specs.HeaderWords.{Letter, Pointee, At, HeaderWord, OfType, OfStruct, field_in, function_of, is_field, port_type, present, scalar_of, struct_of, word_in}
use Rattle.rt_cdecl.specs.HeaderWords.{Spot as Told, after as told_after, after_all as told_all}
use Rattle.rt_header.specs.Erased.{Spot, OfValue, OfPointee, after, after_all, port_spot, value_of, scalar_of as erased_scalar, word_in as erased_word}
use Rattle.rt_header.specs.Inside.Built.{Forest, Structs, IsForest, IsNodeOf, IsStructOf, IsTypeOf, AreFieldsOf, IsPortOf, IsFunctionBuilt, AreBuilt, class_of, tree_of, pointer, scalar, used, unused}
use Rattle.rt_base.proofs.Lists.{All-at}
use Rattle.rt_base.proofs.Numbers.{apart}
use Rattle.rt_header.proofs.Fields.{type_bits}

-- Options that agree: none both, or of values that do.

abbrev pub AreBoth : {X Y : Type 0} (R : X → Y → Type 0) → Option X → Option Y → Type 0
AreBoth R None None = Unit {0}
AreBoth R None (Some y) = ⊥
AreBoth R (Some x) None = ⊥
AreBoth R (Some x) (Some y) = R x y

pub both_then : {X Y X' Y' : Type 0} (R : X → Y → Type 0) (S : X' → Y' → Type 0) (f : X → Option X') (g : Y → Option Y')
    → ((x : X) (y : Y) → R x y → AreBoth S (f x) (g y)) → (o : Option X) (p : Option Y) → AreBoth R o p
    → AreBoth S (option_and_then f o) (option_and_then g p)
both_then R S f g h None None b = tt
both_then R S f g h None (Some y) b = absurd b
both_then R S f g h (Some x) None b = absurd b
both_then R S f g h (Some x) (Some y) b = h x y b

pub both_map : {X Y Z : Type 0} (R : X → Y → Type 0) (f : X → Z) (g : Y → Z) → ((x : X) (y : Y) → R x y → f x ≡ g y)
    → (o : Option X) (p : Option Y) → AreBoth R o p → option_map f o ≡ option_map g p
both_map R f g h None None b = refl
both_map R f g h None (Some y) b = absurd b
both_map R f g h (Some x) None b = absurd b
both_map R f g h (Some x) (Some y) b = ap Some (h x y b)

pub both_maps : {X Y X' Y' : Type 0} (R : X → Y → Type 0) (S : X' → Y' → Type 0) (f : X → X') (g : Y → Y')
    → ((x : X) (y : Y) → R x y → S (f x) (g y)) → (o : Option X) (p : Option Y) → AreBoth R o p → AreBoth S (option_map f o) (option_map g p)
both_maps R S f g h None None b = tt
both_maps R S f g h None (Some y) b = absurd b
both_maps R S f g h (Some x) None b = absurd b
both_maps R S f g h (Some x) (Some y) b = h x y b

pub both_join : {X Y Z : Type 0} (R : X → Z → Type 0) (S : Y → Z → Type 0) (T : X → Y → Type 0) → ((x : X) (y : Y) (z : Z) → R x z → S y z → T x y)
    → (o : Option X) (p : Option Y) (q : Option Z) → AreBoth R o q → AreBoth S p q → AreBoth T o p
both_join R S T h None None q b c = tt
both_join R S T h None (Some y) None b c = absurd c
both_join R S T h None (Some y) (Some z) b c = absurd b
both_join R S T h (Some x) None None b c = absurd b
both_join R S T h (Some x) None (Some z) b c = absurd c
both_join R S T h (Some x) (Some y) None b c = absurd b
both_join R S T h (Some x) (Some y) (Some z) b c = h x y z b c

-- Nodes of a graph that are alike.

module _ (graph : Nodes) (good : IsGraph graph) where
  like_step : (x y : ℕ) → AreLike graph x y → (l : Label) (a : ℕ) → step_of graph x l ≡ Some a
      → (b : ℕ) × (step_of graph y l ≡ Some b) × AreLike graph a b
  like_step x y like l i e =
      let at = node_of graph i (step_in graph good.each x i l e) in
      let there : marks_from graph y (l ∷ []) ≡ Some (marks_of at.0) =
      sym (like (l ∷ [])) ∙ marked graph x (l ∷ []) i at.0 (ap (option_and_then (λ k. walk graph k [])) e) at.1 in
      let to = leads graph y (l ∷ []) (marks_of at.0) there in
      let by = then_some (λ k. walk graph k []) (step_of graph y l) to.0 to.1 in
      (by.0, by.1, λ w. sym (after_step x i e w) ∙ (like (l ∷ w) ∙ after_step y by.0 by.1 w))
    where
      after_step : (n k : ℕ) → step_of graph n l ≡ Some k → (w : List Label) → marks_from graph n (l ∷ w) ≡ marks_from graph k w
      after_step n k f w = ap (λ o. option_and_then (λ m. option_map marks_of (slice_get graph m)) (option_and_then (λ m. walk graph m w) o)) f

  pub like_steps : (x y : ℕ) → AreLike graph x y → (l : Label) → AreBoth (AreLike graph) (step_of graph x l) (step_of graph y l)
  like_steps x y like l = by (step_of graph x l) (step_of graph y l) refl refl
    where
      some_same : {X : Type 0} (a b : X) → Some a ≡ Some b → a ≡ b
      some_same a b e = ap (λ o. unwrap_or o a) e

      none_some : {X : Type 0} (a : X) → None ≡ Some a → ⊥
      none_some a e = cc

      by : (o p : Option ℕ) → o ≡ step_of graph x l → p ≡ step_of graph y l → AreBoth (AreLike graph) o p
      by None None e f = tt
      by None (Some b) e f = let s = like_step y x (λ w. sym (like w)) l b (sym f) in none_some s.0 (e ∙ s.1)
      by (Some a) None e f = let s = like_step x y like l a (sym e) in none_some s.0 (f ∙ s.1)
      by (Some a) (Some b) e f = let s = like_step x y like l a (sym e) in subst (AreLike graph a) (some_same s.0 b (sym s.1 ∙ sym f)) s.2

-- the marks after a step
pub marks_step : (graph : Nodes) (x : ℕ) (l : Label) (w : List Label) → marks_from graph x (l ∷ w) ≡ option_and_then (λ a. marks_from graph a w) (step_of graph x l)
marks_step graph x l w = by (step_of graph x l)
  where
    by : (o : Option ℕ) → option_and_then (λ m. option_map marks_of (slice_get graph m)) (option_and_then (λ m. walk graph m w) o) ≡
        option_and_then (λ a. marks_from graph a w) o
    by None = refl
    by (Some a) = refl

pub node_there : (graph : Nodes) (x : ℕ) → x < length graph → slice_get graph x ≡ Some (node_at graph x)
node_there graph x less = slice_get-get_or graph x (leaf 0 0) less

-- What a graph has of the nodes of trees.

-- a field that is found is one, of that width
row_found : (count : ℕ) (rows : List Row) → All (IsRow count) rows → (bits k : ℕ) (row : Row) → row_at rows bits k ≡ Some row → IsRow count row × (row.bits ≡ bits)
row_found count [] each bits k row e = absurd (none-some row e)
row_found count (first ∷ rows) each bits k row e = by ((first.offset == k) && (first.bits == bits)) refl e (row_found count rows (All-tail (IsRow count) first rows each) bits k row)
  where
    by : (t : Bool) → t ≡ ((first.offset == k) && (first.bits == bits)) → cond t (Some first) (row_at rows bits k) ≡ Some row
        → (row_at rows bits k ≡ Some row → IsRow count row × (row.bits ≡ bits)) → IsRow count row × (row.bits ≡ bits)
    by true t e rest =
        let same = same_Some first row e in
        (subst (IsRow count) same (All-head (IsRow count) first rows each), ap (λ (r : Row). r.bits) (sym same) ∙ eqb-true first.bits bits (and_parts (first.offset == k) (first.bits == bits) (sym t)).1)
    by false t e rest = rest e

module _ (forest : Forest) (is : IsForest forest) where
  abbrev pub graph : Nodes
  graph = forest.erased.graph

  abbrev pub place : ℕ → ℕ → ℕ
  place i n = get_or forest.starts i 0 + n

  pub in_graph : (i n : ℕ) → IsNodeOf forest i n → place i n < length graph
  in_graph i n at = let e = (is.trees i at.tree).2 in let w = e.within in let l = at.node in omega (arith, w, l)

  -- nodes of one class are alike
  pub class_like : (i n j m : ℕ) → IsNodeOf forest i n → IsNodeOf forest j m → class_of forest i n ≡ class_of forest j m
      → AreLike graph (place i n) (place j m)
  class_like i n j m at to e = λ w.
      is.classes.like (place i n) (in_graph i n at) w ∙ (ap (λ c. marks_from graph c w) e ∙ sym (is.classes.like (place j m) (in_graph j m to) w))

  -- nodes that are alike are of one class
  pub like_class : (i n j m : ℕ) → IsNodeOf forest i n → IsNodeOf forest j m → AreLike graph (place i n) (place j m)
      → class_of forest i n ≡ class_of forest j m
  like_class i n j m at to like =
      let x = place i n in
      let y = place j m in
      let lx = in_graph i n at in
      let ly = in_graph j m to in
      let cx = slice_index forest.classes x in
      let cy = slice_index forest.classes y in
      let bx : cx ≤ x = is.classes.first x x lx lx (λ w. refl) in
      let by : cy ≤ y = is.classes.first y y ly ly (λ w. refl) in
      let ab : cx ≤ cy = is.classes.first x cy lx (omega (arith, by, ly)) (λ w. like w ∙ is.classes.like y ly w) in
      let ba : cy ≤ cx = is.classes.first y cx ly (omega (arith, bx, lx)) (λ w. sym (like w) ∙ is.classes.like x lx w) in
      omega (arith, ab, ba)

  -- what two values at nodes of trees have alike: they are pointers to one class, or scalars of one name
  pub data AreTwins (bits i n j m : ℕ) : Type 0 where
    pointers : (p q : ℕ) → bits ≡ 32 → pointee_of (tree_of forest i) n ≡ Some p → pointee_of (tree_of forest j) m ≡ Some q
        → class_of forest i p ≡ class_of forest j q → AreTwins bits i n j m
    scalars : is_pointer (tree_of forest i) bits n ≡ false → is_pointer (tree_of forest j) bits m ≡ false
        → scalar_number forest.erased.extremes.top forest.erased.extremes.bottom (node_at (tree_of forest i) n) ≡
        scalar_number forest.erased.extremes.top forest.erased.extremes.bottom (node_at (tree_of forest j) m) → AreTwins bits i n j m

  -- what a node points to is a node
  pub pointee_in : (i n p : ℕ) → IsNodeOf forest i n → pointee_of (tree_of forest i) n ≡ Some p → IsNodeOf forest i p
  pointee_in i n p at e = record {
    tree = at.tree;
    node = by (step_of t n Load) (step_of t n Store) refl refl e;
  }
    where
      t : Nodes
      t = tree_of forest i

      whole : IsTree t
      whole = (is.trees i at.tree).0

      by : (o q : Option ℕ) → o ≡ step_of t n Load → q ≡ step_of t n Store → first_some o q ≡ Some p → p < length t
      by None q f g h = step_in t whole.nodes n p Store (sym g ∙ h)
      by (Some a) q f g h = step_in t whole.nodes n p Load (sym f ∙ h)

  pub pointer_true : (i bits n p : ℕ) → bits ≡ 32 → pointee_of (tree_of forest i) n ≡ Some p → is_pointer (tree_of forest i) bits n ≡ true
  pointer_true i bits n p b e = ap (λ o. (bits == 32) && is_some o) e ∙ ap (λ k. (k == 32) && true) b

  pointer_parts : (i bits n : ℕ) → is_pointer (tree_of forest i) bits n ≡ true → (bits ≡ 32) × (p : ℕ) × (pointee_of (tree_of forest i) n ≡ Some p)
  pointer_parts i bits n e = by (pointee_of (tree_of forest i) n) refl (and_parts (bits == 32) (is_some (pointee_of (tree_of forest i) n)) e)
    where
      by : (o : Option ℕ) → o ≡ pointee_of (tree_of forest i) n → ((bits == 32) ≡ true) × (is_some (pointee_of (tree_of forest i) n) ≡ true)
          → (bits ≡ 32) × (p : ℕ) × (pointee_of (tree_of forest i) n ≡ Some p)
      by None f h = absurd (false≢true (ap is_some f ∙ h.1))
      by (Some p) f h = (eqb-true bits 32 h.0, p, sym f)

  -- the number of a scalar's name is that of a name
  pub scalar_below : (i n : ℕ) → IsNodeOf forest i n
      → scalar_number forest.erased.extremes.top forest.erased.extremes.bottom (node_at (tree_of forest i) n) < forest.erased.extremes.count
  scalar_below i n at = by (node.up == forest.erased.extremes.top) (node.low == forest.erased.extremes.bottom)
    where
      node : Node
      node = node_at (tree_of forest i) n

      named : (node.low < forest.erased.extremes.count) × (node.up < forest.erased.extremes.count)
      named = (is.trees i at.tree).1 n at.node

      by : (a b : Bool) → cond (not a) node.up (cond (not b) node.low forest.erased.extremes.top) < forest.erased.extremes.count
      by false b = named.1
      by true false = named.0
      by true true = is.extremes.top

  -- the node that a pointer or a scalar stands for
  pub target_pointer : (i p : ℕ) (row : Row) → is_pointer (tree_of forest i) row.bits row.node ≡ true → pointee_of (tree_of forest i) row.node ≡ Some p
      → target_of forest.erased.extremes (get_or forest.starts i 0) (tree_of forest i) row ≡ place i p
  target_pointer i p row e f =
      ap (λ b. cond b (get_or forest.starts i 0 + unwrap_or (pointee_of (tree_of forest i) row.node) 0)
      (scalar_number forest.erased.extremes.top forest.erased.extremes.bottom (node_at (tree_of forest i) row.node))) e ∙
      ap (λ o. get_or forest.starts i 0 + unwrap_or o 0) f

  pub target_scalar : (i : ℕ) (row : Row) → is_pointer (tree_of forest i) row.bits row.node ≡ false
      → target_of forest.erased.extremes (get_or forest.starts i 0) (tree_of forest i) row ≡
      scalar_number forest.erased.extremes.top forest.erased.extremes.bottom (node_at (tree_of forest i) row.node)
  target_scalar i row e =
      ap (λ b. cond b (get_or forest.starts i 0 + unwrap_or (pointee_of (tree_of forest i) row.node) 0)
      (scalar_number forest.erased.extremes.top forest.erased.extremes.bottom (node_at (tree_of forest i) row.node))) e

  pub struct_marks : (i n : ℕ) → IsNodeOf forest i n → marks_of (node_at graph (place i n)) ≡ (0, 0)
  struct_marks i n at = (is.trees i at.tree).2.marks n at.node

  -- a field leads to a node
  row_in : (i n : ℕ) → IsNodeOf forest i n → (bits k : ℕ) (row : Row) → row_at (fields_of (node_at (tree_of forest i) n)) bits k ≡ Some row
      → IsNodeOf forest i row.node × (row.bits ≡ bits)
  row_in i n at bits k row e =
      let whole = (is.trees i at.tree).0 in
      let found = row_found (length (tree_of forest i)) (fields_of (node_at (tree_of forest i) n)) (fields_rows (tree_of forest i) n whole at.node) bits k row e in
      (record { tree = at.tree; node = found.0.node }, found.1)

  -- a label that is no field leads nowhere
  pub no_step : (i n : ℕ) → IsNodeOf forest i n → (l : Label) (w : List Label)
      → erased_step forest.erased.extremes (get_or forest.starts i 0) (tree_of forest i) n l ≡ None → marks_from graph (place i n) (l ∷ w) ≡ None
  no_step i n at l w e = marks_step graph (place i n) l w ∙ ap (option_and_then (λ a. marks_from graph a w)) ((is.trees i at.tree).2.steps n at.node l ∙ e)

  -- targets that are alike are those of twins
  twins : (bits i j : ℕ) (row other : Row) → IsNodeOf forest i row.node → IsNodeOf forest j other.node → row.bits ≡ bits → other.bits ≡ bits
      → AreLike graph (target_of forest.erased.extremes (get_or forest.starts i 0) (tree_of forest i) row)
      (target_of forest.erased.extremes (get_or forest.starts j 0) (tree_of forest j) other)
      → AreTwins bits i row.node j other.node
  twins bits i j row other at to b c like =
      by (is_pointer (tree_of forest i) row.bits row.node) (is_pointer (tree_of forest j) other.bits other.node) refl refl
    where
      count : ℕ
      count = forest.erased.extremes.count

      number : ℕ → ℕ → ℕ
      number k n = scalar_number forest.erased.extremes.top forest.erased.extremes.bottom (node_at (tree_of forest k) n)

      in_names : (k : ℕ) → k < count → k < length graph
      in_names k h = let w = is.names.within in omega (arith, h, w)

      unlike : (k p n : ℕ) → IsNodeOf forest k p → n < count → marks_of (node_at graph (place k p)) ≡ marks_of (node_at graph n) → ⊥
      unlike k p n kp h e =
          let d : 0 ≡ 1 = ap (λ (m : ℕ × ℕ). m.1) (sym (struct_marks k p kp) ∙ (e ∙ is.names.marks n h)) in
          omega (arith, d)

      by : (p q : Bool) → p ≡ is_pointer (tree_of forest i) row.bits row.node → q ≡ is_pointer (tree_of forest j) other.bits other.node
          → AreTwins bits i row.node j other.node
      by true true e f =
          let u = pointer_parts i row.bits row.node (sym e) in
          let v = pointer_parts j other.bits other.node (sym f) in
          let iu = pointee_in i row.node u.1 at u.2 in
          let jv = pointee_in j other.node v.1 to v.2 in
          pointers u.1 v.1 (sym b ∙ u.0) u.2 v.2 (like_class i u.1 j v.1 iu jv
          (subst (λ y. AreLike graph (place i u.1) y) (target_pointer j v.1 other (sym f) v.2)
          (subst (λ x. AreLike graph x (target_of forest.erased.extremes (get_or forest.starts j 0) (tree_of forest j) other))
          (target_pointer i u.1 row (sym e) u.2) like)))
      by true false e f =
          let u = pointer_parts i row.bits row.node (sym e) in
          let iu = pointee_in i row.node u.1 at u.2 in
          let k = number j other.node in
          let h = scalar_below j other.node to in
          let same : AreLike graph (place i u.1) k =
          subst (λ y. AreLike graph (place i u.1) y) (target_scalar j other (sym f))
          (subst (λ x. AreLike graph x (target_of forest.erased.extremes (get_or forest.starts j 0) (tree_of forest j) other))
          (target_pointer i u.1 row (sym e) u.2) like) in
          absurd (unlike i u.1 k iu h (like_marks graph (place i u.1) k (in_graph i u.1 iu) (in_names k h) same))
      by false true e f =
          let v = pointer_parts j other.bits other.node (sym f) in
          let jv = pointee_in j other.node v.1 to v.2 in
          let k = number i row.node in
          let h = scalar_below i row.node at in
          let same : AreLike graph k (place j v.1) =
          subst (λ y. AreLike graph k y) (target_pointer j v.1 other (sym f) v.2)
          (subst (λ x. AreLike graph x (target_of forest.erased.extremes (get_or forest.starts j 0) (tree_of forest j) other))
          (target_scalar i row (sym e)) like) in
          absurd (unlike j v.1 k jv h (sym (like_marks graph k (place j v.1) (in_names k h) (in_graph j v.1 jv) same)))
      by false false e f =
          let k = number i row.node in
          let h = scalar_below i row.node at in
          let k' = number j other.node in
          let h' = scalar_below j other.node to in
          let same : AreLike graph k k' =
          subst (λ y. AreLike graph k y) (target_scalar j other (sym f))
          (subst (λ x. AreLike graph x (target_of forest.erased.extremes (get_or forest.starts j 0) (tree_of forest j) other))
          (target_scalar i row (sym e)) like) in
          let marks : marks_of (node_at graph k) ≡ marks_of (node_at graph k') = like_marks graph k k' (in_names k h) (in_names k' h') same in
          scalars (subst (λ n. is_pointer (tree_of forest i) n row.node ≡ false) b (sym e))
          (subst (λ n. is_pointer (tree_of forest j) n other.node ≡ false) c (sym f))
          (ap (λ (m : ℕ × ℕ). m.0) (sym (is.names.marks k h) ∙ (marks ∙ is.names.marks k' h')))

  -- the fields of nodes that are alike are twins
  pub row_twins : (i n j m : ℕ) → IsNodeOf forest i n → IsNodeOf forest j m → AreLike graph (place i n) (place j m) → (bits k : ℕ)
      → AreBoth (λ (row other : Row). AreTwins bits i row.node j other.node × IsNodeOf forest i row.node × (row.bits ≡ bits))
      (row_at (fields_of (node_at (tree_of forest i) n)) bits k) (row_at (fields_of (node_at (tree_of forest j) m)) bits k)
  row_twins i n j m at to like bits k = by (row_at mine bits k) (row_at others bits k) refl refl
      (subst (λ o. AreBoth (AreLike graph) o (option_map there (row_at others bits k))) (step i n at)
      (subst (λ p. AreBoth (AreLike graph) (step_of graph (place i n) (Field bits (pos k))) p) (step j m to)
      (like_steps graph is.graph (place i n) (place j m) like (Field bits (pos k)))))
    where
      mine : List Row
      mine = fields_of (node_at (tree_of forest i) n)

      others : List Row
      others = fields_of (node_at (tree_of forest j) m)

      here : Row → ℕ
      here = target_of forest.erased.extremes (get_or forest.starts i 0) (tree_of forest i)

      there : Row → ℕ
      there = target_of forest.erased.extremes (get_or forest.starts j 0) (tree_of forest j)

      step : (a b : ℕ) → IsNodeOf forest a b → step_of graph (place a b) (Field bits (pos k)) ≡
          option_map (target_of forest.erased.extremes (get_or forest.starts a 0) (tree_of forest a)) (row_at (fields_of (node_at (tree_of forest a) b)) bits k)
      step a b ab = (is.trees a ab.tree).2.steps b ab.node (Field bits (pos k))

      by : (o p : Option Row) → o ≡ row_at mine bits k → p ≡ row_at others bits k → AreBoth (AreLike graph) (option_map here o) (option_map there p)
          → AreBoth (λ (row other : Row). AreTwins bits i row.node j other.node × IsNodeOf forest i row.node × (row.bits ≡ bits)) o p
      by None None e f both = tt
      by None (Some q) e f both = absurd both
      by (Some r) None e f both = absurd both
      by (Some r) (Some q) e f both =
          let a = row_in i n at bits k r (sym e) in
          let b = row_in j m to bits k q (sym f) in
          (twins bits i j r q a.0 b.0 a.1 b.1 both, a.0, a.1)

-- What declarations tell.

pub loc_same : (l : Loc) → loc_eq l l ≡ true
loc_same l = (loc_laws.laws-law).refl l

pub int_eq_pos : (a b : ℕ) → int_eq (pos a) (pos b) ≡ (a == b)
int_eq_pos a b = same_from_decides (int_eq (pos a) (pos b)) (a == b) (Decides-int_eq (pos a) (pos b)) ((λ e. ap pos (eqb-true a b e)), (λ e. eq-eqb a b (ap natural e)))
  where
    natural : ℤ → ℕ
    natural (pos n) = n
    natural (negsuc n) = 0

-- such a type is that of something
type_present : (forest : Forest) (structs : Structs) (i bits n : ℕ) (t : CType) → IsTypeOf forest structs i bits n t → IsPresent t
type_present forest structs i bits n _ (pointer m s b e so) = tt
type_present forest structs i bits n _ (scalar e) = tt

-- numbers that are their own places are found
pub find_numbered : (d : CStruct) (structs : List CStruct) (first s : ℕ) → s < length structs
    → ((k : ℕ) → k < length structs → (get_or structs k d).number ≡ first + k)
    → find (λ (t : CStruct). t.number == first + s) structs ≡ Some (get_or structs s d)
find_numbered d [] first s less are = absurd (omega (arith, less))
find_numbered d (t ∷ structs) first zero less are =
    ap (λ b. cond b (Some t) (find (λ (u : CStruct). u.number == first + 0) structs)) (eq-eqb t.number (first + 0) (are 0 less))
find_numbered d (t ∷ structs) first (suc s) less are =
    ap (λ b. cond b (Some t) (find (λ (u : CStruct). u.number == first + suc s) structs)) (apart t.number (first + suc s) (λ e. let h = are 0 (omega (arith, less)) in omega (arith, e, h))) ∙
    (ap (λ (n : ℕ). find (λ (u : CStruct). u.number == n) structs) (omega arith) ∙
    find_numbered d structs (first + 1) s (omega (arith, less)) (λ k h. are (suc k) (omega (arith, h)) ∙ omega arith))

module _ (forest : Forest) (is : IsForest forest) (structs : Structs) (decls : Decls)
    (built : AreBuilt forest structs decls.structs decls.functions) where
  abbrev pub no_struct : CStruct
  no_struct = record { number = 0; fields = [] }

  -- the struct of a number is found
  pub struct_found : (s : ℕ) → s < length structs → struct_of decls s ≡ Some (get_or decls.structs s no_struct)
  struct_found s less =
      ap (λ (n : ℕ). find (λ (t : CStruct). t.number == n) decls.structs) (omega arith) ∙
      find_numbered no_struct decls.structs 0 s (let e = built.each in omega (arith, e, less))
      (λ k h. (built.built k (let e = built.each in omega (arith, e, h))).number ∙ omega arith)

  -- the node that a struct stands for
  pub stands_for : (s : ℕ) → s < length structs → IsNodeOf forest (get_or structs s (0, 0)).0 (get_or structs s (0, 0)).1
  stands_for s less = record { tree = built.are.tree s less; node = built.are.node s less }

  -- the type of a twin is one's own
  pub type_as : (bits i n j m : ℕ) (t : CType) → AreTwins forest is bits i n j m → IsTypeOf forest structs j bits m t → IsTypeOf forest structs i bits n t
  type_as bits i n j m _ (pointers p q b e f same) (pointer q' s b' f' so) =
      pointer p s b e (record {
        within = so.within;
        class = so.class ∙ (ap (class_of forest j) (same_Some q' q (sym f' ∙ f)) ∙ sym same);
      })
  type_as bits i n j m _ (pointers p q b e f same) (scalar never) = absurd (false≢true (sym never ∙ pointer_true forest is j bits m q b f))
  type_as bits i n j m _ (scalars never never' same) (pointer q s b f so) = absurd (false≢true (sym never' ∙ pointer_true forest is j bits m q b f))
  type_as bits i n j m _ (scalars never never' same) (scalar never'') =
      subst (λ k. IsTypeOf forest structs i bits n (Scalar (slice_index_or forest.names k []) bits)) same (scalar never)

  -- fields are found where rows are
  fields_agree : (i : ℕ) (rows : List Row) (fields : List CField) → AreFieldsOf forest structs i rows fields → (bits k : ℕ)
      → AreBoth (λ (f : CField) (row : Row). IsTypeOf forest structs i row.bits row.node f.kind × (row.bits ≡ bits))
      (find (is_field bits (pos k)) fields) (row_at rows bits k)
  fields_agree i [] [] are bits k = tt
  fields_agree i [] (field ∷ fields) are bits k = absurd are
  fields_agree i (row ∷ rows) [] are bits k = absurd are
  fields_agree i (row ∷ rows) (field ∷ fields) (offset, kind, are) bits k =
      by ((row.offset == k) && (row.bits == bits)) refl same (fields_agree i rows fields are bits k)
    where
      same : is_field bits (pos k) field ≡ ((row.offset == k) && (row.bits == bits))
      same = ap (λ b. b && (bits_of field.kind == bits)) (int_eq_pos field.offset k) ∙ ap (λ o. (o == k) && (bits_of field.kind == bits)) offset ∙ ap (λ b. (row.offset == k) && (b == bits)) (type_bits forest structs i row.bits row.node field.kind kind)

      Fit : CField → Row → Type 0
      Fit f r = IsTypeOf forest structs i r.bits r.node f.kind × (r.bits ≡ bits)

      by : (t : Bool) → t ≡ ((row.offset == k) && (row.bits == bits)) → is_field bits (pos k) field ≡ ((row.offset == k) && (row.bits == bits))
          → AreBoth Fit (find (is_field bits (pos k)) fields) (row_at rows bits k)
          → AreBoth Fit (cond (is_field bits (pos k) field) (Some field) (find (is_field bits (pos k)) fields)) (cond ((row.offset == k) && (row.bits == bits)) (Some row) (row_at rows bits k))
      by true t e rest =
          subst (λ b. AreBoth Fit (cond b (Some field) (find (is_field bits (pos k)) fields)) (cond ((row.offset == k) && (row.bits == bits)) (Some row) (row_at rows bits k))) (t ∙ sym e)
          (subst (λ b. AreBoth Fit (Some field) (cond b (Some row) (row_at rows bits k))) t
          (kind, eqb-true row.bits bits (and_parts (row.offset == k) (row.bits == bits) (sym t)).1))
      by false t e rest =
          subst (λ b. AreBoth Fit (cond b (Some field) (find (is_field bits (pos k)) fields)) (cond ((row.offset == k) && (row.bits == bits)) (Some row) (row_at rows bits k))) (t ∙ sym e)
          (subst (λ b. AreBoth Fit (find (is_field bits (pos k)) fields) (cond b (Some row) (row_at rows bits k))) t rest)

  -- what declarations and a tree tell of one place
  pub data Agree (i : ℕ) : Told → Spot → Type 0 where
    value : (bits n : ℕ) (t : CType) → IsNodeOf forest i n → IsTypeOf forest structs i bits n t → Agree i (OfType t) (OfValue bits n)
    pointee : (s n : ℕ) → IsNodeOf forest i n → IsStructOf forest structs i n s → Agree i (OfStruct s) (OfPointee n)

  no_field : (bits k : ℕ) (fields : List CField) → find (is_field bits (negsuc k)) fields ≡ None
  no_field bits k [] = refl
  no_field bits k (field ∷ fields) = no_field bits k fields

  -- the field of a struct is that of what it stands for
  pub field_agrees : (i s n : ℕ) → IsNodeOf forest i n → IsStructOf forest structs i n s → (bits k : ℕ)
      → AreBoth (λ (f : CField) (row : Row). IsNodeOf forest i row.node × IsTypeOf forest structs i bits row.node f.kind × (row.bits ≡ bits))
      (find (is_field bits (pos k)) (get_or decls.structs s no_struct).fields) (row_at (fields_of (node_at (tree_of forest i) n)) bits k)
  field_agrees i s n at so bits k =
      let for : ℕ × ℕ = get_or structs s (0, 0) in
      let to = stands_for s so.within in
      both_join (λ (f : CField) (row : Row). IsTypeOf forest structs for.0 row.bits row.node f.kind × (row.bits ≡ bits))
      (λ (row other : Row). AreTwins forest is bits i row.node for.0 other.node × IsNodeOf forest i row.node × (row.bits ≡ bits))
      (λ (f : CField) (row : Row). IsNodeOf forest i row.node × IsTypeOf forest structs i bits row.node f.kind × (row.bits ≡ bits))
      (λ f row other typed twin. (
        twin.1,
        type_as bits i row.node for.0 other.node f.kind twin.0
            (subst (λ b. IsTypeOf forest structs for.0 b other.node f.kind) typed.1 typed.0),
        twin.2,
      ))
      (find (is_field bits (pos k)) (get_or decls.structs s no_struct).fields)
      (row_at (fields_of (node_at (tree_of forest i) n)) bits k)
      (row_at (fields_of (node_at (tree_of forest for.0) for.1)) bits k)
      (fields_agree for.0 (fields_of (node_at (tree_of forest for.0) for.1)) (get_or decls.structs s no_struct).fields (built.built s so.within).fields bits k)
      (row_twins forest is i n for.0 for.1 at to (class_like forest is i n for.0 for.1 at to (sym so.class)) bits k)

  -- what a value points to
  pointee_value : (i bits n : ℕ) (t : CType) → IsNodeOf forest i n → IsTypeOf forest structs i bits n t
      → AreBoth (Agree i) (told_after decls Pointee (OfType t)) (after (tree_of forest i) Pointee (OfValue bits n))
  pointee_value i bits n _ at (pointer m s b e so) =
      subst (λ k. AreBoth (Agree i) (Some (OfStruct s)) (cond (k == 32) (option_map OfPointee (pointee_of (tree_of forest i) n)) None)) (sym b)
      (subst (λ o. AreBoth (Agree i) (Some (OfStruct s)) (option_map OfPointee o)) (sym e) (pointee s m (pointee_in forest is i n m at e) so))
  pointee_value i bits n _ at (scalar never) = by (bits == 32) refl (pointee_of (tree_of forest i) n) refl
    where
      by : (w : Bool) → w ≡ (bits == 32) → (o : Option ℕ) → o ≡ pointee_of (tree_of forest i) n → AreBoth (Agree i) None (cond w (option_map OfPointee o) None)
      by false e o f = tt
      by true e None f = tt
      by true e (Some p) f = absurd (false≢true (sym never ∙ (ap (λ b. b && is_some (pointee_of (tree_of forest i) n)) (sym e) ∙ ap is_some (sym f))))

  -- a letter leads to places that agree
  letter_agrees : (i : ℕ) (letter : Letter) (x : Told) (y : Spot) → Agree i x y
      → AreBoth (Agree i) (told_after decls letter x) (after (tree_of forest i) letter y)
  letter_agrees i Pointee _ _ (value bits n t at typed) = pointee_value i bits n t at typed
  letter_agrees i Pointee _ _ (pointee s n at so) = tt
  letter_agrees i (At bits (pos k)) _ _ (value b n t at is_type) = tt
  letter_agrees i (At bits (negsuc k)) _ _ (value b n t at is_type) = tt
  letter_agrees i (At bits (pos k)) _ _ (pointee s n at so) =
      subst (λ o. AreBoth (Agree i) (option_and_then (λ struct. field_in struct bits (pos k)) o) (option_map value_of (row_at (fields_of (node_at (tree_of forest i) n)) bits k)))
      (sym (struct_found s so.within))
      (both_maps (λ (f : CField) (row : Row). IsNodeOf forest i row.node × IsTypeOf forest structs i bits row.node f.kind × (row.bits ≡ bits)) (Agree i)
      (λ f. OfType f.kind) value_of (λ f row fit. subst (λ b. Agree i (OfType f.kind) (OfValue b row.node)) (sym fit.2) (value bits row.node f.kind fit.0 fit.1))
      (find (is_field bits (pos k)) (get_or decls.structs s no_struct).fields) (row_at (fields_of (node_at (tree_of forest i) n)) bits k) (field_agrees i s n at so bits k))
  letter_agrees i (At bits (negsuc k)) _ _ (pointee s n at so) =
      subst (λ o. AreBoth (Agree i) o None)
      (sym (ap (option_and_then (λ struct. field_in struct bits (negsuc k))) (struct_found s so.within) ∙
      ap (option_map (λ (f : CField). OfType f.kind)) (no_field bits k (get_or decls.structs s no_struct).fields))) tt

  letters_agree : (i : ℕ) (letters : List Letter) (x : Told) (y : Spot) → Agree i x y
      → AreBoth (Agree i) (told_all decls letters x) (after_all (tree_of forest i) letters y)
  letters_agree i [] x y agree = agree
  letters_agree i (letter ∷ letters) x y agree =
      both_then (Agree i) (Agree i) (told_all decls letters) (after_all (tree_of forest i) letters) (letters_agree i letters)
      (told_after decls letter x) (after (tree_of forest i) letter y) (letter_agrees i letter x y agree)

  -- the scalar name of a value
  scalar_value : (i bits n : ℕ) (t : CType) → IsTypeOf forest structs i bits n t
      → scalar_of (OfType t) ≡ erased_scalar forest.names forest.erased.extremes.top forest.erased.extremes.bottom (tree_of forest i) (OfValue bits n)
  scalar_value i bits n _ (pointer m s b e so) =
      ap (λ w. cond w None (Some (slice_index_or forest.names (scalar_number forest.erased.extremes.top forest.erased.extremes.bottom (node_at (tree_of forest i) n)) [])))
      (sym (pointer_true forest is i bits n m b e))
  scalar_value i bits n _ (scalar never) =
      ap (λ w. cond w None (Some (slice_index_or forest.names (scalar_number forest.erased.extremes.top forest.erased.extremes.bottom (node_at (tree_of forest i) n)) []))) (sym never)

  -- places that agree have one scalar name
  scalars_agree : (i : ℕ) (x : Told) (y : Spot) → Agree i x y
      → scalar_of x ≡ erased_scalar forest.names forest.erased.extremes.top forest.erased.extremes.bottom (tree_of forest i) y
  scalars_agree i _ _ (value bits n t at typed) = scalar_value i bits n t typed
  scalars_agree i _ _ (pointee s n at so) = refl

  -- Arguments and results.

  root_in : (i n : ℕ) (l : Label) → i < length forest.trees → step_of (tree_of forest i) 0 l ≡ Some n → IsNodeOf forest i n
  root_in i n l less e = record { tree = less; node = step_in (tree_of forest i) (is.trees i less).0.nodes 0 n l e }

  port_both : (i : ℕ) → i < length forest.trees → (l : Label) (t : CType) → IsPortOf forest structs i l t
      → AreBoth (Agree i) (present t) (option_map (OfValue 32) (step_of (tree_of forest i) 0 l))
  port_both i less l _ (used n t e typed) =
      subst (λ o. AreBoth (Agree i) (present t) (option_map (OfValue 32) o)) (sym e) (by t typed)
    where
      by : (t : CType) → IsTypeOf forest structs i 32 n t → AreBoth (Agree i) (present t) (Some (OfValue 32 n))
      by (Pointer s) typed = value 32 n (Pointer s) (root_in i n l less e) typed
      by (Scalar name bits) typed = value 32 n (Scalar name bits) (root_in i n l less e) typed
      by Unused typed = absurd (type_present forest structs i 32 n Unused typed)
  port_both i less l _ (unused e) = subst (λ o. AreBoth (Agree i) None (option_map (OfValue 32) o)) (sym e) tt

  abbrev pub no_argument : Loc × CType
  no_argument = (place_of 0, Unused)

  -- an argument is found where there is one of its place
  pub data IsFound (first : ℕ) (loc : Loc) (args : List (Loc × CType)) : Option CType → Type 0 where
    none_found : ((j : ℕ) → j < length args → place_of (first + j) ≡ loc → ⊥) → IsFound first loc args None
    found : (j : ℕ) → j < length args → place_of (first + j) ≡ loc → IsFound first loc args (Some (get_or args j no_argument).1)

  pub argument : (first : ℕ) (loc : Loc) (args : List (Loc × CType)) → ((j : ℕ) → j < length args → (get_or args j no_argument).0 ≡ place_of (first + j))
      → IsFound first loc args (lookup (loc_eq loc) args)
  argument first loc [] are = none_found (λ j less. absurd (omega (arith, less)))
  argument first loc (arg ∷ args) are = by (loc_eq loc arg.0) refl (lookup (loc_eq loc) args) (argument (first + 1) loc args (λ j less. are (suc j) (omega (arith, less)) ∙ ap place_of (omega arith)))
    where
      by : (b : Bool) → b ≡ loc_eq loc arg.0 → (o : Option CType) → IsFound (first + 1) loc args o → IsFound first loc (arg ∷ args) (cond b (Some arg.1) o)
      by true e o f = found 0 (omega arith) (sym (are 0 (omega arith)) ∙ sym (loc_equal loc arg.0 (sym e)))
      by false e None (none_found never) = none_found (λ j less here. others j less here)
        where
          others : (j : ℕ) → j < length (arg ∷ args) → place_of (first + j) ≡ loc → ⊥
          others zero less here = false≢true (e ∙ (ap (λ l. loc_eq loc l) (are 0 less ∙ here) ∙ loc_same loc))
          others (suc j) less here = never j (omega (arith, less)) (ap place_of (omega arith) ∙ here)
      by false e (Some t) (found j less here) = found (suc j) (omega (arith, less)) (ap place_of (omega arith) ∙ here)

  pub argument_agrees : (i : ℕ) → i < length forest.trees → (f : CFunction) → IsFunctionBuilt forest structs i f → (loc : Loc)
      → AreBoth (Agree i) (option_and_then present (lookup (loc_eq loc) f.args)) (option_map (OfValue 32) (step_of (tree_of forest i) 0 (In loc)))
  argument_agrees i less f made loc =
      by (lookup (loc_eq loc) f.args) (argument 0 loc f.args (λ j h. made.places j h ∙ ap place_of (omega arith))) (step_of (tree_of forest i) 0 (In loc)) refl
    where
      by : (o : Option CType) → IsFound 0 loc f.args o → (p : Option ℕ) → p ≡ step_of (tree_of forest i) 0 (In loc)
          → AreBoth (Agree i) (option_and_then present o) (option_map (OfValue 32) p)
      by None (none_found never) None e = tt
      by None (none_found never) (Some n) e =
          let (j, h, here) = made.all loc (subst IsSome e refl) in absurd (never j h (ap place_of (omega arith) ∙ here))
      by (Some t) (found j h here) p e =
          subst (λ q. AreBoth (Agree i) (present (get_or f.args j no_argument).1) (option_map (OfValue 32) q)) (sym e)
          (port_both i less (In loc) (get_or f.args j no_argument).1 (subst (λ l. IsPortOf forest structs i (In l) (get_or f.args j no_argument).1) (ap place_of (omega arith) ∙ here) (made.args j h)))

  -- no edge of a root has such a label
  no_edge : (i : ℕ) → i < length forest.trees → (l : Label) → (IsLabel l → ⊥) → step_of (tree_of forest i) 0 l ≡ None
  no_edge i less l never = by (step_of (tree_of forest i) 0 l) refl
    where
      t : Nodes
      t = tree_of forest i

      whole : IsTree t
      whole = (is.trees i less).0

      by : (o : Option ℕ) → o ≡ step_of t 0 l → o ≡ None
      by None e = refl
      by (Some n) e =
          let root = node_of t 0 whole.rooted in
          let good = All-at (IsNode (length t)) t 0 root.0 whole.nodes root.1 in
          absurd (never (found_has (IsEdge (length t)) l n root.0.edges good.each (sym (ap (option_and_then (edge_of l)) root.1) ∙ sym e)).0)

  pub port_agrees : (i : ℕ) → i < length forest.trees → (f : CFunction) → IsFunctionBuilt forest structs i f → (l : Label)
      → AreBoth (Agree i) (port_type f l) (port_spot (tree_of forest i) l)
  port_agrees i less f made (In loc) = argument_agrees i less f made loc
  port_agrees i less f made (Out zero) = port_both i less (Out 0) f.out0 made.out0
  port_agrees i less f made (Out (suc zero)) = port_both i less (Out 1) f.out1 made.out1
  port_agrees i less f made (Out (suc (suc r))) =
      subst (λ o. AreBoth (Agree i) None (option_map (OfValue 32) o)) (sym (no_edge i less (Out (suc (suc r))) (λ h. omega (arith, h)))) tt
  port_agrees i less f made Load = tt
  port_agrees i less f made Store = tt
  port_agrees i less f made (Field w k) = tt

  -- the words of a function
  pub words_agree : (i : ℕ) → i < length forest.trees → (f : CFunction) → IsFunctionBuilt forest structs i f → (number : ℕ) → function_of decls number ≡ Some f
      → (word : HeaderWord) → word_in decls number word ≡
      erased_word forest.names forest.erased.extremes.top forest.erased.extremes.bottom (tree_of forest i) word
  words_agree i less f made number e word =
      ap (λ o. option_map scalar_of (option_and_then (told_all decls word.letters) (option_and_then (λ g. port_type g word.port) o))) e ∙
      both_map (Agree i) scalar_of (erased_scalar forest.names forest.erased.extremes.top forest.erased.extremes.bottom (tree_of forest i)) (scalars_agree i)
      (option_and_then (told_all decls word.letters) (port_type f word.port)) (option_and_then (after_all (tree_of forest i) word.letters) (port_spot (tree_of forest i) word.port))
      (both_then (Agree i) (Agree i) (told_all decls word.letters) (after_all (tree_of forest i) word.letters) (letters_agree i word.letters)
      (port_type f word.port) (port_spot (tree_of forest i) word.port) (port_agrees i less f made word.port))
