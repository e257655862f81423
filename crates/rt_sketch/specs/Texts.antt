-- The text of a tree.
use Rattle.std.specs.Prelude.{ℕ, ◌+◌, ◌*◌, ◌<◌, nat_eq, Bool, true, false, if◌then◌else◌}
use Rattle.std.specs.Prelude.{All, List, [], ◌∷◌, ◌++◌, codes, decimal, slice_index_or}
use Rattle.std.specs.List.{flat_map}
use Rattle.rt_lines.specs.declared.label.Label.{Label}
use Rattle.rt_lines.specs.Orders.{Below}
use Rattle.rt_texts.specs.Texts.{label_text}
use Rattle.rt_tree.specs.Trees.{Node, Nodes}

-- the first number is the second one, or below it
abbrev pub is_at_or_below : Below → ℕ → ℕ → Bool
is_at_or_below order a b = if nat_eq a b then true else slice_index_or order.cells (a * order.count + b) false

-- what a node's line ends with: where its lower mark isn't at or below its upper one, that they conflict
abbrev pub conflict_text : Below → Node → List ℕ
conflict_text order node = if is_at_or_below order node.low node.up then codes "\n" else codes " conflict\n"

-- a node's line: its number and the names of its marks
abbrev pub node_text : List (List ℕ) → Below → ℕ → Node → List ℕ
node_text names order number node =
    codes "node " ++ decimal number ++ codes " " ++ slice_index_or names node.low [] ++ codes " " ++ slice_index_or names node.up [] ++
    conflict_text order node

-- the line of an edge of the node of a number: its label and its end
abbrev pub edge_text : ℕ → Label × ℕ → List ℕ
edge_text number edge = decimal number ++ codes " " ++ label_text edge.0 ++ codes " " ++ decimal edge.1 ++ codes "\n"

-- nodes, from this number on, each with its edges
abbrev pub nodes_text : List (List ℕ) → Below → ℕ → Nodes → List ℕ
nodes_text names order number [] = []
nodes_text names order number (node ∷ nodes) =
    node_text names order number node ++ flat_map (edge_text number) node.edges ++ nodes_text names order (number + 1) nodes

-- the nodes of a tree, from the root on, each with its edges
abbrev pub tree_text : List (List ℕ) → Below → Nodes → List ℕ
tree_text names order tree = nodes_text names order 0 tree

-- the marks of all nodes are below a count
abbrev pub AreMarksBelow : ℕ → Nodes → Type 0
AreMarksBelow count tree = All (λ node. (node.low < count) × (node.up < count)) tree
