-- What is in a tree is below its count.
use Rattle.std.proofs.Common.{◌≡◌, ℕ, ◌<◌, ◌⊎◌, inl, inr, Some, List, Contains, refl, sym, subst, ◌∙◌}
use Rattle.rt_lines.specs.declared.variable.Dtv.{Dtv}
use Rattle.rt_lines.specs.declared.line.Line.{Line}
use Rattle.rt_shape.specs.Graphs.{Graph, node_of, IsTree}
use Rattle.rt_shape.specs.Shapes.{Equates, ArePairs}
use Rattle.rt_shape.specs.Inside.Classes.{Joined}
use Rattle.rt_shape.specs.Inside.Classes.Joined.{joined_pair, joined_self, joined_back, joined_chain, joined_letter}
use Rattle.rt_shape.proofs.Walks.{Walks, walks}
use Rattle.rt_shape.proofs.Walks.Walks.{at_base, at_letter}

pub walked_within : (tree : Graph) → IsTree tree → (x : Dtv) (n : ℕ) → Walks tree x n → n < tree.count
walked_within tree is_tree x n (at_base b e) = is_tree.whole.bases_in b n e
walked_within tree is_tree x n (at_letter {x = y} {m = m} l w e) = (is_tree.whole.edges_in m l n e).1

-- both nodes of a pair are nodes
pub pairs_within : (lines : List Line) (tree : Graph) (pairs : List (ℕ × ℕ)) → IsTree tree → ArePairs lines tree pairs → (i j : ℕ) → Contains pairs (i, j) → (i < tree.count) × (j < tree.count)
pairs_within lines tree pairs is_tree are i j c = by (are.only i j c)
  where
    by : (l : Line) × Contains lines l × ((x : Dtv) × (y : Dtv) × Equates l x y × (node_of tree x ≡ Some i) × (node_of tree y ≡ Some j)) → (i < tree.count) × (j < tree.count)
    by (l, in_lines, (x, y, q, e, f)) = (walked_within tree is_tree x i (walks tree x i e), walked_within tree is_tree y j (walks tree y j f))

-- what has to be one is one already, or two nodes of the tree
module _ (tree : Graph) (pairs : List (ℕ × ℕ)) (is_tree : IsTree tree) (pairs_in : (i j : ℕ) → Contains pairs (i, j) → (i < tree.count) × (j < tree.count)) where
  abbrev pub AreOneOrWithin : ℕ → ℕ → Type 0
  AreOneOrWithin i j = (i ≡ j) ⊎ ((i < tree.count) × (j < tree.count))

  back : (i j : ℕ) → AreOneOrWithin i j → AreOneOrWithin j i
  back i j (inl e) = inl (sym e)
  back i j (inr (h, k)) = inr (k, h)

  chain : (i j k : ℕ) → AreOneOrWithin i j → AreOneOrWithin j k → AreOneOrWithin i k
  chain i j k (inl e) (inl f) = inl (e ∙ f)
  chain i j k (inl e) (inr h) = inr (subst (λ n. n < tree.count) (sym e) h.0, h.1)
  chain i j k (inr h) (inl e) = inr (h.0, subst (λ n. n < tree.count) e h.1)
  chain i j k (inr h) (inr g) = inr (h.0, g.1)

  pub joined_within : {i j : ℕ} → Joined tree pairs i j → AreOneOrWithin i j
  joined_within (joined_pair {i = i} {j = j} c) = inr (pairs_in i j c)
  joined_within joined_self = inl refl
  joined_within (joined_back {i = i} {j = j} d) = back i j (joined_within d)
  joined_within (joined_chain {i = i} {j = j} {k = k} d g) = chain i j k (joined_within d) (joined_within g)
  joined_within (joined_letter {i = i} {j = j} {m = m} {n = n} l k same d e f) = inr ((is_tree.whole.edges_in i l m e).1, (is_tree.whole.edges_in j k n f).1)
