-- Blocks of items, which are split by what leads to a block: parts of the way to classes of nodes. The items are the nodes of a graph,
-- by their numbers, and then the edges of all nodes: an edge leads to the node where it ends, and a node to its edges.
use Rattle.std.specs.Prelude.{◌≡◌, ◌↔◌, ℕ, suc, ◌+◌, ◌<◌, ◌≤◌, ◌⊎◌, Some, List, [], ◌∷◌, ◌++◌, map}
use Rattle.std.specs.Prelude.{filter, flat_map, length, nat_eq, Contains}
use Rattle.std.specs.Prelude.{slice_get, slice_set, slice_index, slice_index_or}
use Rattle.rt_lines.specs.declared.label.Label.{Label}
use Rattle.rt_tree.specs.declared.links.Link.{Link}
use Rattle.rt_tree.specs.Kinds.{rank_of, number_of}
use Rattle.rt_tree.specs.Partitions.{slot_of}
use Rattle.rt_tree.specs.Trees.{Nodes, AreLike}

-- an edge of a node
abbrev pub link_of : ℕ → Label × ℕ → Link
link_of from edge = record { from = from; label = edge.0; to = edge.1 }

-- the edges of the nodes from number n on
abbrev pub links_from : ℕ → Nodes → List Link
links_from n [] = []
links_from n (node ∷ nodes) = map (link_of n) node.edges ++ links_from (suc n) nodes

-- the edges of all nodes
abbrev pub links_of : Nodes → List Link
links_of nodes = links_from 0 nodes

-- two edges have one label, and begin and end at nodes that are alike
pub record AreAlikeLinks (nodes : Nodes) (first second : Link) : Type 0 where
  pub labels : first.label ≡ second.label
  pub begins : AreLike nodes first.from second.from
  pub ends : AreLike nodes first.to second.to

-- two edges by their numbers
pub record AreAlikeEdges (nodes : Nodes) (i j : ℕ) : Type 0 where
  pub first : Link
  pub second : Link
  pub first_at : slice_get (links_of nodes) i ≡ Some first
  pub second_at : slice_get (links_of nodes) j ≡ Some second
  pub alike : AreAlikeLinks nodes first second

-- two items are alike: both are nodes, or both are edges
abbrev pub AreAlike : Nodes → ℕ → ℕ → Type 0
AreAlike nodes x y =
    ((x < length nodes) × (y < length nodes) × AreLike nodes x y) ⊎
    ((i : ℕ) × (j : ℕ) × (x ≡ length nodes + i) × (y ≡ length nodes + j) × AreAlikeEdges nodes i j)

-- items that are alike are of one class
abbrev pub AreTold : Nodes → List ℕ → Type 0
AreTold nodes class = (x y : ℕ) → AreAlike nodes x y → slice_index class x ≡ slice_index class y

-- the second number is in the row of the first
abbrev pub IsIn : List (List ℕ) → ℕ → ℕ → Type 0
IsIn rows v w = Contains (slice_index_or rows v []) w

-- an edge leads to its end, and its beginning to it, where so many nodes come before the edges
abbrev pub LeadsBy : ℕ → List Link → ℕ → ℕ → ℕ → Type 0
LeadsBy count links j u x = (link : Link) × (slice_get links j ≡ Some link) ×
    (((u ≡ link.to) × (x ≡ count + j)) ⊎ ((u ≡ count + j) × (x ≡ link.from)))

-- the row of each item has what leads to it by the edges before a number
pub record AreIntoTo (count : ℕ) (links : List Link) (upto : ℕ) (into : List (List ℕ)) : Type 0 where
  pub each : length into ≡ count + length links
  pub all : (j u x : ℕ) → j < upto → LeadsBy count links j u x → IsIn into u x
  pub only : (u x : ℕ) → IsIn into u x → (j : ℕ) × (j < upto) × LeadsBy count links j u x

-- by all edges
abbrev pub AreInto : ℕ → List Link → List (List ℕ) → Type 0
AreInto count links into = AreIntoTo count links (length links) into

-- each item is in the row of its class, in which there may be others; each class has a twin, which is a class too
pub record AreBlocks (count : ℕ) (class : List ℕ) (members : List (List ℕ)) (twin : List ℕ) : Type 0 where
  pub each : length class ≡ count
  pub twins : length twin ≡ length members
  pub within : (b x : ℕ) → IsIn members b x → x < count
  pub there : (x : ℕ) → x < count → IsIn members (slice_index class x) x
  pub paired : (b : ℕ) → b < length members → slice_index twin b < length members

-- those of some items that are in a block
abbrev pub living_in : List ℕ → ℕ → List ℕ → List ℕ
living_in class block items = filter (λ x. nat_eq (slice_index class x) block) items

-- what leads to items
abbrev pub led_to : List (List ℕ) → List ℕ → List ℕ
led_to into items = flat_map (λ u. slice_index_or into u []) items

-- what leads to a class
abbrev pub AreLed : List (List ℕ) → List ℕ → ℕ → List ℕ → Type 0
AreLed into class block led =
    (x : ℕ) → Contains led x ↔ ((u : ℕ) × (u < length class) × (slice_index class u ≡ block) × IsIn into u x)

-- the first of those that were led to left their classes for the twins of these, which are new: their numbers are the count of the
-- old classes or more
pub record IsSplitTo (done led class new twin : List ℕ) (count : ℕ) : Type 0 where
  pub each : length new ≡ length class
  pub stays : (x : ℕ) → x < length class → slice_index new x < count → slice_index new x ≡ slice_index class x
  pub goes : (x : ℕ) → x < length class → count ≤ slice_index new x →
      Contains led x × (slice_index new x ≡ slice_index twin (slice_index class x))
  pub all : (x : ℕ) → Contains done x → count ≤ slice_index new x

-- all of them did
abbrev pub IsSplit : List ℕ → List ℕ → List ℕ → List ℕ → ℕ → Type 0
IsSplit led class new twin count = IsSplitTo led led class new twin count

-- the twin of a class is new, and twins that were new stay
pub record IsTwin (count block : ℕ) (old new : List ℕ) (twin : ℕ) : Type 0 where
  pub fresh : count ≤ twin
  pub is : slice_index new block ≡ twin
  pub others : (b : ℕ) → b < count → (b ≡ block → ⊥) → slice_index new b ≡ slice_index old b
  pub kept : count ≤ slice_index old block → slice_index old block ≡ twin

-- an item that is in a new class stays there; another one goes to the twin of its class, which is new
abbrev pub IsMoved : ℕ → ℕ → List ℕ → List ℕ → List ℕ → List ℕ → Type 0
IsMoved count item class twin new after =
    ((count ≤ slice_index class item) × (new ≡ class) × (after ≡ twin)) ⊎
    ((slice_index class item < count) × (to : ℕ) × IsTwin count (slice_index class item) twin after to ×
    (new ≡ slice_set class item to))

-- rows stay, and none or more empty ones come behind
pub record HasMoreRows (old new : List (List ℕ)) : Type 0 where
  pub long : length old ≤ length new
  pub same : (v : ℕ) → slice_index_or new v [] ≡ slice_index_or old v []

-- a label's row
abbrev pub label_row : Label → List ℕ
label_row l = rank_of l ∷ slot_of (number_of l) ∷ []

-- for each edge the first one with its label
pub record AreFirstLabels (links : List Link) (first : List ℕ) : Type 0 where
  pub each : length first ≡ length links
  pub low : (j : ℕ) → j < length links → slice_index first j ≤ j
  pub one : (i j : ℕ) (left right : Link) → slice_get links i ≡ Some left → slice_get links j ≡ Some right →
      left.label ≡ right.label →
      slice_index first i ≡ slice_index first j
