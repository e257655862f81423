-- Where words lead in a tree.
use Rattle.std.proofs.Common.{◌≡◌, ℕ, ◌<◌, Option, Some, None, All, List, [], ◌∷◌, ◌++◌, length, refl, ap, subst, ◌∙◌}
use Rattle.std.specs.List.{slice_get}
use Rattle.std.specs.Option.{option_map, option_and_then}
use Rattle.std.proofs.lemmas.Option.{slice_get-get_or}
use Rattle.rt_lines.specs.declared.label.Label.{Label}
use Rattle.rt_tree.specs.Trees.{Node, Nodes, leaf, edge_of, step_of, walk, marks_of, marks_from, IsNode, IsEdge}
use Rattle.rt_tree.proofs.Edges.{found_has}
use Rattle.rt_base.proofs.Lists.{All-at}

pub then_some : {A B : Type 0} (f : A → Option B) (o : Option A) (y : B) → option_and_then f o ≡ Some y → (x : A) × (o ≡ Some x) × (f x ≡ Some y)
then_some f None y e = cc
then_some f (Some x) y e = (x, refl, e)

-- the node that a number below the count has
pub node_of : (tree : Nodes) (n : ℕ) → n < length tree → (node : Node) × (slice_get tree n ≡ Some node)
node_of tree n less = (_, slice_get-get_or tree n (leaf 0 0) less)

-- the edges of each node are good
abbrev pub AreNodes : Nodes → Type 0
AreNodes tree = All (IsNode (length tree)) tree

pub step_in : (tree : Nodes) → AreNodes tree → (n m : ℕ) (l : Label) → step_of tree n l ≡ Some m → m < length tree
step_in tree good n m l e =
    let at = then_some (edge_of l) (slice_get tree n) m e in
    (found_has (IsEdge (length tree)) l m at.0.edges (All-at (IsNode (length tree)) tree n at.0 good at.1).each at.2).1

pub walk_in : (tree : Nodes) → AreNodes tree → (n : ℕ) (w : List Label) (m : ℕ) → n < length tree → walk tree n w ≡ Some m → m < length tree
walk_in tree good n [] m less e = let same : n ≡ m = cc in subst (λ k. k < length tree) same less
walk_in tree good n (l ∷ w) m less e =
    let at = then_some (λ k. walk tree k w) (step_of tree n l) m e in
    walk_in tree good at.0 w m (step_in tree good n at.0 l at.1) at.2

pub walk-append : (tree : Nodes) (n : ℕ) (u w : List Label) → walk tree n (u ++ w) ≡ option_and_then (λ m. walk tree m w) (walk tree n u)
walk-append tree n [] w = refl
walk-append tree n (l ∷ u) w = by (step_of tree n l) (λ m. walk-append tree m u w)
  where
    by : (o : Option ℕ) → ((m : ℕ) → walk tree m (u ++ w) ≡ option_and_then (λ k. walk tree k w) (walk tree m u)) → option_and_then (λ m. walk tree m (u ++ w)) o ≡ option_and_then (λ m. walk tree m w) (option_and_then (λ m. walk tree m u) o)
    by None rest = refl
    by (Some m) rest = rest m

-- what is read after a word is read from where the word leads
pub marks-append : (tree : Nodes) (n : ℕ) (u w : List Label) (m : ℕ) → walk tree n u ≡ Some m → marks_from tree n (u ++ w) ≡ marks_from tree m w
marks-append tree n u w m e =
    ap (option_and_then (λ k. option_map marks_of (slice_get tree k))) (walk-append tree n u w ∙ ap (option_and_then (λ k. walk tree k w)) e)

pub walk_on : (tree : Nodes) (n : ℕ) (u : List Label) (m : ℕ) (l : Label) (k : ℕ) → walk tree n u ≡ Some m → step_of tree m l ≡ Some k → walk tree n (u ++ l ∷ []) ≡ Some k
walk_on tree n u m l k e f =
    walk-append tree n u (l ∷ []) ∙ (ap (option_and_then (λ j. walk tree j (l ∷ []))) e ∙ ap (option_and_then (λ j. walk tree j [])) f)

-- a word has marks where it leads to a node
pub marked : (tree : Nodes) (n : ℕ) (w : List Label) (m : ℕ) (node : Node) → walk tree n w ≡ Some m → slice_get tree m ≡ Some node → marks_from tree n w ≡ Some (marks_of node)
marked tree n w m node e f = ap (option_and_then (λ k. option_map marks_of (slice_get tree k))) e ∙ ap (option_map marks_of) f

-- and leads somewhere where it has marks
pub leads : (tree : Nodes) (n : ℕ) (w : List Label) (marks : ℕ × ℕ) → marks_from tree n w ≡ Some marks → (m : ℕ) × (walk tree n w ≡ Some m)
leads tree n w marks e = let at = then_some (λ k. option_map marks_of (slice_get tree k)) (walk tree n w) marks e in (at.0, at.1)
