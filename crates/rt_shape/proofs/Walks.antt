-- Where words lead in a graph.
use Rattle.std.proofs.Common.{◌≡◌, ℕ, Option, Some, None, List, [], ◌∷◌, ◌++◌, refl, sym, ap, subst, ◌∙◌}
use Rattle.rt_lines.specs.declared.label.Label.{Label}
use Rattle.rt_lines.specs.declared.variable.Base.{Base}
use Rattle.rt_lines.specs.declared.variable.Dtv.{Dtv}
use Rattle.rt_rules.specs.Rules.{longer, extended}
use Rattle.rt_rules.proofs.Covering.{extended-nil, extended-cons}
use Rattle.rt_shape.specs.Graphs.{Graph, bare, base_of, step_of, walk, node_of}

module _ (graph : Graph) where
  walk-none : (w : List Label) → walk graph.edges None w ≡ None
  walk-none [] = refl
  walk-none (l ∷ w) = refl

  walk-append : (o : Option ℕ) (u w : List Label) → walk graph.edges o (u ++ w) ≡ walk graph.edges (walk graph.edges o u) w
  walk-append None u w = sym (walk-none w) ∙ ap (λ p. walk graph.edges p w) (sym (walk-none u))
  walk-append (Some n) [] w = refl
  walk-append (Some n) (l ∷ u) w = walk-append (step_of graph n l) u w

  pub node_of-extended : (x : Dtv) (w : List Label) → node_of graph (extended x w) ≡ walk graph.edges (node_of graph x) w
  node_of-extended x w = walk-append (base_of graph x.base) x.word w

  -- a step from the node of a variable leads to the node of the variable with that letter more
  pub node_of-longer : (x : Dtv) (l : Label) (n : ℕ) → node_of graph x ≡ Some n → node_of graph (longer x l) ≡ step_of graph n l
  node_of-longer x l n e = node_of-extended x (l ∷ []) ∙ ap (λ o. walk graph.edges o (l ∷ [])) e ∙ last (step_of graph n l)
    where
      last : (o : Option ℕ) → walk graph.edges o [] ≡ o
      last None = refl
      last (Some m) = refl

  step_back : (o : Option ℕ) (l : Label) (n : ℕ) → walk graph.edges o (l ∷ []) ≡ Some n → (m : ℕ) × (o ≡ Some m) × (step_of graph m l ≡ Some n)
  step_back None l n e = absurd cc
  step_back (Some m) l n e = (m, refl, last (step_of graph m l) e)
    where
      last : (p : Option ℕ) → walk graph.edges p [] ≡ Some n → p ≡ Some n
      last None f = f
      last (Some k) f = f

  -- where a variable with a letter more has a node, the variable has one, and the letter leads on
  pub node_of-back : (x : Dtv) (l : Label) (n : ℕ) → node_of graph (longer x l) ≡ Some n → (m : ℕ) × (node_of graph x ≡ Some m) × (step_of graph m l ≡ Some n)
  node_of-back x l n e = step_back (node_of graph x) l n (sym (node_of-extended x (l ∷ [])) ∙ e)

  -- the nodes of variables, letter by letter from the base on
  pub data Walks : Dtv → ℕ → Type 0 where
    at_base : (b : Base) {n : ℕ} → base_of graph b ≡ Some n → Walks (bare b) n
    at_letter : {x : Dtv} {m n : ℕ} (l : Label) → Walks x m → step_of graph m l ≡ Some n → Walks (longer x l) n

  walks_on : (w : List Label) (x : Dtv) (o : Option ℕ) (n : ℕ) → ((m : ℕ) → o ≡ Some m → Walks x m) → walk graph.edges o w ≡ Some n → Walks (extended x w) n
  walks_on w x None n h e = absurd (none_some (sym (walk-none w) ∙ e))
    where
      none_some : None ≡ Some n → ⊥
      none_some f = cc
  walks_on [] x (Some m) n h e = subst (λ v. Walks v n) (sym (extended-nil x)) (h n e)
  walks_on (l ∷ w) x (Some m) n h e = subst (λ v. Walks v n) (extended-cons x l w) (walks_on w (longer x l) (step_of graph m l) n (λ k f. at_letter l (h m refl) f) e)

  pub walks : (x : Dtv) (n : ℕ) → node_of graph x ≡ Some n → Walks x n
  walks x n e = walks_on x.word (bare x.base) (base_of graph x.base) n (λ m f. at_base x.base f) e

  pub has_walked : (x : Dtv) (n : ℕ) → Walks x n → node_of graph x ≡ Some n
  has_walked x n (at_base b e) = by (base_of graph b) e
    where
      by : (o : Option ℕ) → o ≡ Some n → walk graph.edges o [] ≡ Some n
      by None f = f
      by (Some m) f = f
  has_walked y n (at_letter {x = x} {m = m} l w e) = node_of-longer x l m (has_walked x m w) ∙ e

-- one node, where two are given
pub one_node : (graph : Graph) (x : Dtv) (m n : ℕ) → node_of graph x ≡ Some m → node_of graph x ≡ Some n → m ≡ n
one_node graph x m n e f = cc
