-- Trees whose marks are names, in one graph.
use Rattle.std.proofs.Common.{◌≡◌, ℕ, ◌+◌, ◌<◌, ◌≤◌, ◌⊎◌, inl, inr, Some, List, [], ◌∷◌, ◌++◌, length, get_or, refl, sym, ap, subst, ◌∙◌, arith, length-append}
use Rattle.std.specs.Map.{lookup}
use Rattle.std.specs.Prelude.{slice_index}
use Rattle.std.proofs.lemmas.List.{get_or_append_left, get_or_push, get_or_read}
use Rattle.std.proofs.lemmas.Option.{get_or_from_slice_get}
use Rattle.rt_lines.specs.declared.label.Label.{Label}
use Rattle.rt_lines.specs.Equality.{label_eq}
use Rattle.rt_sketch.specs.Sketches.{HasMarksBelow}
use Rattle.rt_tree.specs.Trees.{Node, Nodes, leaf, step_of, node_at, marks_of, marks_from, IsReachedTree}
use Rattle.rt_tree.specs.Partitions.{AreClassesOf, IsGraph}
use Rattle.rt_tree.proofs.Words.{node_of, marked}
use Rattle.rt_tree.proofs.Alike.{at_node}
use Rattle.rt_erase.specs.declared.extremes.Extremes.{Extremes}
use Rattle.rt_erase.specs.Erasures.{Erased, AreExtremes, HasNames, HasErased, HasNamesAt, HasGrown}
use Rattle.rt_header.specs.Inside.Built.{Forest, IsForest, IsNodeOf, class_of}
use Rattle.rt_header.specs.Inside.Made.{IsErased, AreErased}

-- the marks of each node are names where the marks of each word are, since words lead to each node
pub names_at : (count : ℕ) (tree : Nodes) → IsReachedTree tree → HasMarksBelow count tree → HasNamesAt count tree
names_at count tree good marks n less =
    let reached = good.reached n less in
    let node = node_of tree n less in
    let e : marks_from tree 0 reached.0 ≡ Some (marks_of node.0) = marked tree 0 reached.0 n node.0 reached.1 node.1 in
    let is : node_at tree n ≡ node.0 = get_or_from_slice_get tree n node.0 (leaf 0 0) node.1 in
    subst (λ (x : Node). (x.low < count) × (x.up < count)) (sym is) (marks reached.0 (marks_of node.0) e)

-- a tree stands in a graph that has grown as it did
pub erased_more : (extremes : Extremes) (old new : Nodes) (start : ℕ) (tree : Nodes) → HasGrown old new → HasErased extremes old start tree → HasErased extremes new start tree
erased_more extremes old new start tree grown has = record {
  within = let le = grown.longer in let within = has.within in omega arith;
  marks = λ n less. ap marks_of (grown.same (start + n) (inside n less)) ∙ has.marks n less;
  steps = λ n less l. same_step (start + n) l (inside n less) ∙ has.steps n less l;
}
  where
    inside : (n : ℕ) → n < length tree → start + n < length old
    inside n less = let within = has.within in omega arith

    same_step : (m : ℕ) (l : Label) → m < length old → step_of new m l ≡ step_of old m l
    same_step m l less =
        let longer : m < length new = let le = grown.longer in omega arith in
        at_node new m l longer ∙ (ap (λ (x : Node). lookup (label_eq l) x.edges) (grown.same m less) ∙ sym (at_node old m l less))

pub one_more : (old new : Erased) (start : ℕ) (tree : Nodes) → new.extremes ≡ old.extremes → HasGrown old.graph new.graph → IsErased old start tree → IsErased new start tree
one_more old new start tree same grown is = record {
  whole = is.whole;
  names = subst (λ (e : Extremes). HasNamesAt e.count tree) (sym same) is.names;
  stands = subst (λ (e : Extremes). HasErased e new.graph start tree) (sym same) (erased_more old.extremes old.graph new.graph start tree grown is.stands);
}

pub none_erased : (erased : Erased) → AreErased erased [] []
none_erased erased = record { each = refl; every = λ i less. absurd (omega arith) }

-- the trees so far, and one more
pub more_erased : (old new : Erased) (starts : List ℕ) (trees : List Nodes) (start : ℕ) (tree : Nodes) → new.extremes ≡ old.extremes → HasGrown old.graph new.graph → AreErased old starts trees → IsErased new start tree → AreErased new (starts ++ start ∷ []) (trees ++ tree ∷ [])
more_erased old new starts trees start tree same grown are is = record {
  each = let e = length-append starts (start ∷ []) in let f = length-append trees (tree ∷ []) in let each = are.each in omega arith;
  every = λ i less. at i (split i (let f = length-append trees (tree ∷ []) in omega arith));
}
  where
    split : (i : ℕ) → i < length trees + 1 → (i < length trees) ⊎ (length trees ≡ i)
    split i less = search arith

    at : (i : ℕ) → (i < length trees) ⊎ (length trees ≡ i) → IsErased new (get_or (starts ++ start ∷ []) i 0) (get_or (trees ++ tree ∷ []) i [])
    at i (inl less) =
        let less' : i < length starts = let each = are.each in omega arith in
        subst (λ s. IsErased new s (get_or (trees ++ tree ∷ []) i [])) (sym (get_or_append_left starts (start ∷ []) 0 i less'))
        (subst (IsErased new (get_or starts i 0)) (sym (get_or_append_left trees (tree ∷ []) [] i less))
        (one_more old new (get_or starts i 0) (get_or trees i []) same grown (are.every i less)))
    at i (inr end) =
        subst (λ s. IsErased new s (get_or (trees ++ tree ∷ []) i [])) (sym (get_or_push starts start 0 i (are.each ∙ end)))
        (subst (IsErased new start) (sym (get_or_push trees tree [] i end)) is)

pub are_forest : (names : List (List ℕ)) (erased : Erased) (trees : List Nodes) (starts classes : List ℕ) → AreExtremes erased.extremes → IsGraph erased.graph → HasNames erased.extremes.count erased.graph → length names ≡ erased.extremes.count → AreClassesOf erased.graph classes → AreErased erased starts trees → IsForest (record { names = names; erased = erased; trees = trees; starts = starts; classes = classes })
are_forest names erased trees starts classes extremes graph has count are stand = record {
  extremes = extremes;
  graph = graph;
  names = has;
  count = count;
  classes = are;
  each = stand.each;
  trees = λ i less. let is = stand.every i less in (is.whole, is.names, is.stands);
}

-- a node of a tree stands in the graph
pub node_inside : (forest : Forest) → IsForest forest → (i n : ℕ) → IsNodeOf forest i n → get_or forest.starts i 0 + n < length forest.erased.graph
node_inside forest good i n node = let within = (good.trees i node.tree).2.within in let less = node.node in omega arith

-- a class is a node of the graph
pub class_inside : (forest : Forest) → IsForest forest → (i n : ℕ) → IsNodeOf forest i n → class_of forest i n < length forest.erased.graph
class_inside forest good i n node =
    let x : ℕ = get_or forest.starts i 0 + n in
    let inside : x < length forest.erased.graph = node_inside forest good i n node in
    let first : slice_index forest.classes x ≤ x = good.classes.first x x inside inside (λ w. refl) in
    omega arith

pub start_inside : (forest : Forest) → IsForest forest → (i : ℕ) → i < length forest.trees → i < length forest.starts
start_inside forest good i less = let each = good.each in omega arith

-- the class that is read, where the graph and the classes are a forest's
pub class_read : (inner now : Forest) → inner ≡ now → IsForest inner → (i n x class : ℕ) → IsNodeOf now i n → x ≡ get_or inner.starts i x → class ≡ slice_index inner.classes (x + n) → class < length now.erased.graph
class_read inner now e good i n x class node read is =
    let own : IsNodeOf inner i n = subst (λ (f : Forest). IsNodeOf f i n) (sym e) node in
    let at : x ≡ get_or inner.starts i 0 = get_or_read inner.starts i x (start_inside inner good i own.tree) read 0 in
    let same : class ≡ class_of inner i n = is ∙ ap (λ y. slice_index inner.classes (y + n)) at in
    subst (λ (f : Forest). class < length f.erased.graph) e (subst (λ k. k < length inner.erased.graph) (sym same) (class_inside inner good i n own))
