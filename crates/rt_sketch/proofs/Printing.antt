-- Texts of trees, node by node.
use Rattle.std.proofs.Common.{◌≡◌, ◌∙◌, ℕ, zero, suc, ◌+◌, ◌<◌, List, [], ◌∷◌, ◌++◌, append_assoc, ap, arith, flat_map, length, refl, sym, take}
use Rattle.rt_lines.specs.Orders.{Below}
use Rattle.rt_tree.specs.Trees.{Node, Nodes, node_at}
use Rattle.rt_sketch.specs.Texts.{edge_text, node_text, nodes_text, tree_text}

append_none : (l : List ℕ) → l ++ [] ≡ l
append_none [] = refl
append_none (x ∷ l) = ap (λ t. x ∷ t) (append_none l)

-- a node's line, and those of its edges
abbrev own_text : List (List ℕ) → Below → ℕ → Node → List ℕ
own_text names order number node = node_text names order number node ++ flat_map (edge_text number) node.edges

-- the text of the nodes up to one is that of those before it, and its own
nodes_more : (names : List (List ℕ)) (order : Below) (from n : ℕ) (tree : Nodes) → n < length tree
    → nodes_text names order from (take (suc n) tree) ≡ nodes_text names order from (take n tree) ++ own_text names order (from + n) (node_at tree n)
nodes_more names order from n [] less = absurd (omega (arith, less))
nodes_more names order from zero (node ∷ nodes) less =
    let number : from + 0 ≡ from = omega arith in
    append_none (own_text names order from node) ∙ ap (λ k. own_text names order k node) (sym number)
nodes_more names order from (suc n) (node ∷ nodes) less =
    let number : (from + 1) + n ≡ from + suc n = omega arith in
    let own = own_text names order from node in
    let before = nodes_text names order (from + 1) (take n nodes) in
    ap (λ t. own ++ t) (nodes_more names order (from + 1) n nodes (omega (arith, less)) ∙ ap (λ k. before ++ own_text names order k (node_at nodes n)) number) ∙
    sym (append_assoc own before (own_text names order (from + suc n) (node_at nodes n)))

-- with the lines of one node more
pub text_more : (names : List (List ℕ)) (order : Below) (tree : Nodes) (n : ℕ) (start before middle after : List ℕ) → n < length tree
    → before ≡ start ++ tree_text names order (take n tree) → middle ≡ before ++ node_text names order n (node_at tree n)
    → after ≡ middle ++ flat_map (edge_text n) (node_at tree n).edges → after ≡ start ++ tree_text names order (take (n + 1) tree)
text_more names order tree n start before middle after less is_before is_middle is_after =
    let number : n + 1 ≡ suc n = omega arith in
    let first : 0 + n ≡ n = omega arith in
    let node = node_text names order n (node_at tree n) in
    let edges = flat_map (edge_text n) (node_at tree n).edges in
    let all : nodes_text names order 0 (take (n + 1) tree) ≡ nodes_text names order 0 (take n tree) ++ (node ++ edges) =
    ap (λ k. nodes_text names order 0 (take k tree)) number ∙ (nodes_more names order 0 n tree less ∙
    ap (λ k. nodes_text names order 0 (take n tree) ++ own_text names order k (node_at tree n)) first) in
    is_after ∙ (ap (λ t. t ++ edges) is_middle ∙ (append_assoc before node edges ∙ (ap (λ t. t ++ (node ++ edges)) is_before ∙
    (append_assoc start (nodes_text names order 0 (take n tree)) (node ++ edges) ∙ ap (λ t. start ++ t) (sym all)))))
