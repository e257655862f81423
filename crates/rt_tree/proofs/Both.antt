-- Two trees as one.
use Rattle.std.proofs.Common.{◌≡◌, ℕ, zero, suc, ◌+◌, ◌<◌, ◌≤◌, ◌↔◌, Bool, true, false, cond, Option, Some, None, All, List, [], ◌∷◌, ◌++◌, map, length, refl, sym, ap, subst, ◌∙◌, arith, length-append}
use Rattle.std.specs.List.{AllByRecursion, slice_get}
use Rattle.std.specs.Map.{lookup}
use Rattle.std.specs.Option.{option_map, option_and_then}
use Rattle.std.specs.declared.cmp.Ordering.TheVariants.{Less}
use Rattle.std.proofs.lemmas.List.{length-map}
use Rattle.std.proofs.lemmas.List.Elements.{All-append, All-weaker, All-map}
use Rattle.std.proofs.lemmas.Option.{slice_get-get_or, slice_get-map, get_or_from_slice_get}
use Rattle.std.proofs.lemmas.Bool.Decides.{nat_tests}
use Rattle.rt_lines.specs.declared.label.Label.{Label}
use Rattle.rt_lines.specs.Equality.{label_eq}
use Rattle.rt_tree.specs.Labels.{label_cmp}
use Rattle.rt_tree.specs.Trees.{Node, Nodes, leaf, edge_of, step_of, marks_of, marks_from, node_at, AreSame, AreLike, AreOrdered, IsEdge, IsNode, IsTree}
use Rattle.rt_tree.specs.Laws.{StandFor}
use Rattle.rt_tree.specs.Pairs.{shifted_edges, shifted, both, root_of}
use Rattle.rt_tree.proofs.Growing.{wider, get-front}
use Rattle.rt_tree.proofs.Words.{AreNodes}
use Rattle.rt_tree.proofs.Machines.{unfolds_from}

pub length-both : (a b : Nodes) → length (both a b) ≡ length a + length b
length-both a b = length-append a (map (shifted (length a)) b) ∙ ap (λ n. length a + n) (length-map b (shifted (length a)))

get-back : (xs ys : Nodes) (n k : ℕ) → n ≡ length xs + k → slice_get (xs ++ ys) n ≡ slice_get ys k
get-back [] ys n k e = let same : n ≡ k = omega arith in ap (slice_get ys) same
get-back (x ∷ xs) ys zero k e = absurd (omega arith)
get-back (x ∷ xs) ys (suc n) k e = get-back xs ys n k (omega arith)

pub first-get : (a b : Nodes) (x : ℕ) → x < length a → slice_get (both a b) x ≡ slice_get a x
first-get a b x less = get-front a (map (shifted (length a)) b) x less

pub second-get : (a b : Nodes) (y : ℕ) → slice_get (both a b) (length a + y) ≡ option_map (shifted (length a)) (slice_get b y)
second-get a b y = get-back a (map (shifted (length a)) b) (length a + y) y refl ∙ slice_get-map (shifted (length a)) b y

pub first-node : (a b : Nodes) (x : ℕ) → x < length a → node_at (both a b) x ≡ node_at a x
first-node a b x less = get_or_from_slice_get (both a b) x (node_at a x) (leaf 0 0) (first-get a b x less ∙ slice_get-get_or a x (leaf 0 0) less)

pub second-node : (a b : Nodes) (y : ℕ) → y < length b → node_at (both a b) (length a + y) ≡ shifted (length a) (node_at b y)
second-node a b y less =
    get_or_from_slice_get (both a b) (length a + y) (shifted (length a) (node_at b y)) (leaf 0 0)
    (second-get a b y ∙ ap (option_map (shifted (length a))) (slice_get-get_or b y (leaf 0 0) less))

shifted_lookup : (k : ℕ) (l : Label) (edges : List (Label × ℕ)) → lookup (label_eq l) (shifted_edges k edges) ≡ option_map (λ n. k + n) (lookup (label_eq l) edges)
shifted_lookup k l [] = refl
shifted_lookup k l (edge ∷ edges) = by (label_eq l edge.0) (shifted_lookup k l edges)
  where
    by : (b : Bool) → lookup (label_eq l) (shifted_edges k edges) ≡ option_map (λ n. k + n) (lookup (label_eq l) edges) → cond b (Some (k + edge.1)) (lookup (label_eq l) (shifted_edges k edges)) ≡ option_map (λ n. k + n) (cond b (Some edge.1) (lookup (label_eq l) edges))
    by true rest = refl
    by false rest = rest

second-step : (a b : Nodes) (y : ℕ) (l : Label) → option_map (λ n. length a + n) (step_of b y l) ≡ step_of (both a b) (length a + y) l
second-step a b y l = sym (ap (option_and_then (edge_of l)) (second-get a b y) ∙ by (slice_get b y))
  where
    by : (o : Option Node) → option_and_then (edge_of l) (option_map (shifted (length a)) o) ≡ option_map (λ n. length a + n) (option_and_then (edge_of l) o)
    by None = refl
    by (Some node) = shifted_lookup (length a) l node.edges

shifted_each : (k count : ℕ) (edges : List (Label × ℕ)) → AllByRecursion (IsEdge count) edges → AllByRecursion (IsEdge (k + count)) (shifted_edges k edges)
shifted_each k count [] h = tt
shifted_each k count (edge ∷ edges) h = let less = h.0.1 in ((h.0.0, omega arith), shifted_each k count edges h.1)

shifted_later : (k : ℕ) (l : Label) (edges : List (Label × ℕ)) → AllByRecursion (λ (later : Label × ℕ). label_cmp l later.0 ≡ Less) edges → AllByRecursion (λ (later : Label × ℕ). label_cmp l later.0 ≡ Less) (shifted_edges k edges)
shifted_later k l [] h = tt
shifted_later k l (edge ∷ edges) h = (h.0, shifted_later k l edges h.1)

shifted_ordered : (k : ℕ) (edges : List (Label × ℕ)) → AreOrdered edges → AreOrdered (shifted_edges k edges)
shifted_ordered k [] h = tt
shifted_ordered k (edge ∷ edges) h = (shifted_later k edge.0 edges h.0, shifted_ordered k edges h.1)

shifted_node : (k count : ℕ) (node : Node) → IsNode count node → IsNode (k + count) (shifted k node)
shifted_node k count node h = record { each = shifted_each k count node.edges h.each; ordered = shifted_ordered k node.edges h.ordered }

pub both_nodes : (a b : Nodes) → IsTree a → IsTree b → AreNodes (both a b)
both_nodes a b good good' =
    subst (λ n. All (IsNode n) (both a b)) (sym (length-both a b))
    (All-append (IsNode (length a + length b)) a (map (shifted (length a)) b)
    (All-weaker (IsNode (length a)) (IsNode (length a + length b)) (wider (length a) (length a + length b) (omega arith)) a good.nodes)
    (All-map (IsNode (length a + length b)) (shifted (length a)) b (All-weaker (IsNode (length b)) (λ node. IsNode (length a + length b) (shifted (length a) node)) (shifted_node (length a) (length b)) b good'.nodes)))

mark_in : Nodes → ℕ → ℕ × ℕ
mark_in tree n = marks_of (node_at tree n)

first_stands : (a b : Nodes) → StandFor (step_of (both a b)) (mark_in (both a b)) (λ n. n) a
unfolding mark_in
first_stands a b = record {
  marks = λ n less. ap marks_of (sym (first-node a b n less));
  steps = λ n less l. same (step_of a n l) ∙ sym (ap (option_and_then (edge_of l)) (first-get a b n less));
}
  where
    same : (o : Option ℕ) → option_map (λ n. n) o ≡ o
    same None = refl
    same (Some n) = refl

second_stands : (a b : Nodes) → StandFor (step_of (both a b)) (mark_in (both a b)) (λ n. length a + n) b
unfolding mark_in
second_stands a b = record {
  marks = λ n less. ap marks_of (sym (second-node a b n less));
  steps = λ n less l. second-step a b n l;
}

whole_stands : (t : Nodes) → StandFor (step_of t) (mark_in t) (λ n. n) t
unfolding mark_in
whole_stands t = record { marks = λ n less. refl; steps = λ n less l. same (step_of t n l) }
  where
    same : (o : Option ℕ) → option_map (λ n. n) o ≡ o
    same None = refl
    same (Some n) = refl

pub first-marks : (a b : Nodes) → IsTree a → IsTree b → (x : ℕ) → x < length a → (w : List Label) → marks_from (both a b) x w ≡ marks_from a x w
first-marks a b good good' x less w =
    let len = length-both a b in
    unfolds_from (step_of (both a b)) (mark_in (both a b)) (λ n. n) (both a b) (both_nodes a b good good') (whole_stands (both a b)) x (omega arith) w
    ∙ sym (unfolds_from (step_of (both a b)) (mark_in (both a b)) (λ n. n) a good.nodes (first_stands a b) x less w)

pub second-marks : (a b : Nodes) → IsTree a → IsTree b → (y : ℕ) → y < length b → (w : List Label) → marks_from (both a b) (length a + y) w ≡ marks_from b y w
second-marks a b good good' y less w =
    let len = length-both a b in
    unfolds_from (step_of (both a b)) (mark_in (both a b)) (λ n. n) (both a b) (both_nodes a b good good') (whole_stands (both a b)) (length a + y) (omega arith) w
    ∙ sym (unfolds_from (step_of (both a b)) (mark_in (both a b)) (λ n. length a + n) b good'.nodes (second_stands a b) y less w)

-- the trees have the same words and marks exactly if their roots are alike in the one tree
pub same_if_alike : (a b : Nodes) → IsTree a → IsTree b → AreLike (both a b) 0 (length a) ↔ AreSame a b
same_if_alike a b good good' = (on, back)
  where
    root : (w : List Label) → marks_from (both a b) (length a) w ≡ marks_from b 0 w
    root w = ap (λ n. marks_from (both a b) n w) (plus_zero (length a)) ∙ second-marks a b good good' 0 good'.rooted w
      where
        plus_zero : (n : ℕ) → n ≡ n + 0
        plus_zero n = omega arith

    on : AreLike (both a b) 0 (length a) → AreSame a b
    on like w = sym (first-marks a b good good' 0 good.rooted w) ∙ (like w ∙ root w)

    back : AreSame a b → AreLike (both a b) 0 (length a)
    back same w = first-marks a b good good' 0 good.rooted w ∙ (same w ∙ sym (root w))

root_first : (count x : ℕ) → x < count → root_of count x ≡ 0
root_first count x less = grind (arith, nat_tests)

root_second : (count x : ℕ) → count ≤ x → root_of count x ≡ count
root_second count x le = grind (arith, nat_tests)

shifted_none : (edges : List (Label × ℕ)) → shifted_edges 0 edges ≡ edges
shifted_none [] = refl
shifted_none (edge ∷ edges) = let e : 0 + edge.1 ≡ edge.1 = omega arith in rw (e, shifted_none edges) refl

-- the edges of a node of either tree
pub edges_first : (a b : Nodes) (x : ℕ) (edges : List (Label × ℕ)) → x < length a → edges ≡ (node_at a x).edges → shifted_edges (root_of (length a) x) edges ≡ (node_at (both a b) x).edges
edges_first a b x edges less e =
    ap (λ k. shifted_edges k edges) (root_first (length a) x less) ∙ (shifted_none edges ∙ (e ∙ ap (λ (n : Node). n.edges) (sym (first-node a b x less))))

pub edges_second : (a b : Nodes) (x y : ℕ) (edges : List (Label × ℕ)) → x ≡ length a + y → y < length b → edges ≡ (node_at b y).edges → shifted_edges (root_of (length a) x) edges ≡ (node_at (both a b) x).edges
edges_second a b x y edges is less e =
    ap (λ k. shifted_edges k edges) (root_second (length a) x (omega arith))
    ∙ (ap (shifted_edges (length a)) e ∙ (ap (λ (n : Node). n.edges) (sym (second-node a b y less)) ∙ ap (λ k. (node_at (both a b) k).edges) (sym is)))

pub mark_second : (a b : Nodes) (x y : ℕ) → x ≡ length a + y → y < length b → marks_of (node_at b y) ≡ marks_of (node_at (both a b) x)
mark_second a b x y is less = ap marks_of (sym (second-node a b y less)) ∙ ap (λ k. marks_of (node_at (both a b) k)) (sym is)
