-- Trees stay trees when they grow.
use Rattle.std.proofs.Common.{◌≡◌, ℕ, zero, suc, ◌+◌, ◌<◌, ◌≤◌, ◌^◌, None, All, [], ◌∷◌, ◌++◌, length, set, refl, sym, ap, subst, ◌∙◌, arith, length-append}
use Rattle.std.specs.List.{slice_get}
use Rattle.std.specs.Option.{option_and_then}
use Rattle.std.specs.Map.{lookup}
use Rattle.std.proofs.lemmas.List.{length-set}
use Rattle.std.proofs.lemmas.List.Elements.{All-push, All-set, All-weaker, All-get_or, All-nil}
use Rattle.std.proofs.lemmas.Option.{slice_get-get_or}
use Rattle.rt_lines.specs.declared.label.Label.{Label}
use Rattle.rt_lines.specs.Words.{IsLabel}
use Rattle.rt_lines.specs.Equality.{label_eq}
use Rattle.rt_tree.specs.Trees.{Node, Nodes, leaf, edge_of, step_of, node_at, longer_node, joined, IsNode, IsEdge, IsTree}
use Rattle.rt_tree.proofs.Edges.{edges_with, each_weaker}

wider_edge : (m n : ℕ) → m ≤ n → (edge : Label × ℕ) → IsEdge m edge → IsEdge n edge
wider_edge m n le edge h = let less = h.1 in (h.0, omega arith)

pub wider : (m n : ℕ) → m ≤ n → (node : Node) → IsNode m node → IsNode n node
wider m n le node h = record { each = each_weaker (IsEdge m) (IsEdge n) (wider_edge m n le) node.edges h.each; ordered = h.ordered }

pub a_root : (low up : ℕ) → IsTree (leaf low up ∷ [])
a_root low up = record { rooted = omega arith; numbered = omega arith; nodes = All-push (IsNode 1) [] (leaf low up) (All-nil (IsNode 1)) (record { each = tt; ordered = tt }) }

pub with_leaf : (tree : Nodes) (low up : ℕ) → IsTree tree → length tree + 1 < 2 ^ 32 → IsTree (tree ++ leaf low up ∷ [])
with_leaf tree low up good room =
    let more : length (tree ++ leaf low up ∷ []) ≡ length tree + 1 = length-append tree (leaf low up ∷ []) in
    record {
      rooted = omega arith;
      numbered = omega arith;
      nodes = subst (λ n. All (IsNode n) (tree ++ leaf low up ∷ [])) (sym more) (nodes tree low up good);
    }
  where
    nodes : (tree : Nodes) (low up : ℕ) → IsTree tree → All (IsNode (length tree + 1)) (tree ++ leaf low up ∷ [])
    nodes tree low up good =
        All-push (IsNode (length tree + 1)) tree (leaf low up)
        (All-weaker (IsNode (length tree)) (IsNode (length tree + 1)) (wider (length tree) (length tree + 1) (omega arith)) tree good.nodes)
        (record { each = tt; ordered = tt })

-- no edge of the label, by the node itself
none_at : (tree : Nodes) (n : ℕ) (l : Label) → n < length tree → step_of tree n l ≡ None → lookup (label_eq l) (node_at tree n).edges ≡ None
none_at tree n l less e = sym (ap (option_and_then (edge_of l)) (slice_get-get_or tree n (leaf 0 0) less)) ∙ e

-- with one edge more, of a label that the node has no edge of
pub joined_nodes : (tree : Nodes) (from : ℕ) (l : Label) (to : ℕ) → All (IsNode (length tree)) tree → from < length tree → IsLabel l → to < length tree → step_of tree from l ≡ None → All (IsNode (length (joined tree from l to))) (joined tree from l to)
joined_nodes tree from l to good less label less' none =
    let node = longer_node (node_at tree from) l to in
    let was : IsNode (length tree) (node_at tree from) = All-get_or (IsNode (length tree)) tree from (leaf 0 0) less good in
    let now : IsNode (length tree) node = edges_with (length tree) (node_at tree from).edges l to was label less' (none_at tree from l less none) in
    subst (λ n. All (IsNode n) (set tree from node)) (sym (length-set tree from node)) (All-set (IsNode (length tree)) tree from node now good)

pub with_joined : (tree : Nodes) (from : ℕ) (l : Label) (to : ℕ) → IsTree tree → from < length tree → IsLabel l → to < length tree → step_of tree from l ≡ None → IsTree (joined tree from l to)
with_joined tree from l to good less label less' none =
    let same : length (joined tree from l to) ≡ length tree = length-set tree from (longer_node (node_at tree from) l to) in
    record {
      rooted = subst (λ n. 0 < n) (sym same) good.rooted;
      numbered = subst (λ n. n < 2 ^ 32) (sym same) good.numbered;
      nodes = joined_nodes tree from l to good.nodes less label less' none;
    }

-- what a node has, it has in a longer tree too
pub get-front : (xs ys : Nodes) (k : ℕ) → k < length xs → slice_get (xs ++ ys) k ≡ slice_get xs k
get-front [] ys k less = absurd (omega arith)
get-front (x ∷ xs) ys zero less = refl
get-front (x ∷ xs) ys (suc k) less = get-front xs ys k (omega arith)

pub none_in_front : (tree more : Nodes) (n : ℕ) (l : Label) → n < length tree → step_of tree n l ≡ None → step_of (tree ++ more) n l ≡ None
none_in_front tree more n l less e = ap (option_and_then (edge_of l)) (get-front tree more n less) ∙ e
