-- Trees that grow by one step.
use Rattle.std.proofs.Common.{◌≡◌, ℕ, ◌+◌, ◌<◌, ◌⊎◌, inl, inr, Bool, true, false, cond, Some, None, refl, sym, ap, subst, ◌∙◌, arith}
use Rattle.rt_lines.specs.declared.label.Label.{Label}
use Rattle.rt_lines.specs.declared.variable.Base.{Base}
use Rattle.rt_lines.specs.declared.variable.Dtv.{Dtv}
use Rattle.rt_rules.specs.Rules.{longer}
use Rattle.rt_shape.specs.Graphs.{Graph, letter_eq, base_of, step_of, node_of, IsTree}
use Rattle.rt_shape.proofs.Letters.{letter_equal, letter_self}
use Rattle.rt_shape.proofs.Walks.{Walks, walks, has_walked, node_of-longer}
use Rattle.rt_shape.proofs.Walks.Walks.{at_base, at_letter}
use Rattle.rt_shape.proofs.Growth.{GrowsBy, tree_grown}

-- one step more, to a node more
module _ (old new : Graph) (tree : IsTree old) (node : ℕ) (label : Label) (within : node < old.count)
    (absent : step_of old node label ≡ None) (count : new.count ≡ old.count + 1)
    (bases : (b : Base) → base_of new b ≡ base_of old b)
    (steps : (m : ℕ) (l : Label) → step_of new m l ≡ cond (letter_eq (node, label) (m, l)) (Some old.count) (step_of old m l)) where
  abbrev IsNewStep : Dtv → Type 0
  IsNewStep x = (y : Dtv) × (node_of old y ≡ Some node) × (x ≡ longer y label)

  stays : (m : ℕ) (l : Label) (n : ℕ) → step_of old m l ≡ Some n → step_of new m l ≡ Some n
  stays m l n e = by (letter_eq (node, label) (m, l)) refl
    where
      by : (b : Bool) → letter_eq (node, label) (m, l) ≡ b → step_of new m l ≡ Some n
      by true f =
          let same : ◌≡◌ {A = ℕ × Label} (node, label) (m, l) = letter_equal (node, label) (m, l) f in
          let there : step_of old node label ≡ Some n = subst (λ p. step_of old p.0 p.1 ≡ Some n) (sym same) e in
          absurd cc
      by false f = steps m l ∙ ap (λ b. cond b (Some old.count) (step_of old m l)) f ∙ e

  comes : (m : ℕ) (l : Label) (n : ℕ) → step_of new m l ≡ Some n → (step_of old m l ≡ Some n) ⊎ ((n ≡ old.count) × (m ≡ node) × (l ≡ label))
  comes m l n e = by (letter_eq (node, label) (m, l)) refl
    where
      by : (b : Bool) → letter_eq (node, label) (m, l) ≡ b → (step_of old m l ≡ Some n) ⊎ ((n ≡ old.count) × (m ≡ node) × (l ≡ label))
      by true f =
          let same : ◌≡◌ {A = ℕ × Label} (node, label) (m, l) = letter_equal (node, label) (m, l) f in
          let here : Some old.count ≡ Some n = sym (steps m l ∙ ap (λ b. cond b (Some old.count) (step_of old m l)) f) ∙ e in
          inr (cc, ap (λ p. p.0) (sym same), ap (λ p. p.1) (sym same))
      by false f = inl (sym (steps m l ∙ ap (λ b. cond b (Some old.count) (step_of old m l)) f) ∙ e)

  keeps : (x : Dtv) (n : ℕ) → Walks old x n → Walks new x n
  keeps x n (at_base b e) = at_base b (bases b ∙ e)
  keeps x n (at_letter {x = y} {m = m} l w e) = at_letter l (keeps y m w) (stays m l n e)

  splits : (x : Dtv) (n : ℕ) → Walks new x n → (Walks old x n × (n < old.count)) ⊎ ((n ≡ old.count) × IsNewStep x)
  splits x n (at_base b e) = let f : base_of old b ≡ Some n = sym (bases b) ∙ e in inl (at_base b f, tree.whole.bases_in b n f)
  splits x n (at_letter {x = y} {m = m} l w e) = by (splits y m w) (comes m l n e)
    where
      by : (Walks old y m × (m < old.count)) ⊎ ((m ≡ old.count) × IsNewStep y) → (step_of old m l ≡ Some n) ⊎ ((n ≡ old.count) × (m ≡ node) × (l ≡ label)) → (Walks old (longer y l) n × (n < old.count)) ⊎ ((n ≡ old.count) × IsNewStep (longer y l))
      by (inl (v, less)) (inl f) = inl (at_letter l v f, (tree.whole.edges_in m l n f).1)
      by (inl (v, less)) (inr (f, g, h)) = inr (f, (y, subst (λ k. node_of old y ≡ Some k) g (has_walked old y m v), ap (longer y) h))
      by (inr (f, z)) (inl g) = let in_old = (tree.whole.edges_in m l n g).0 in absurd (omega arith)
      by (inr (f, z)) (inr (g, h, i)) = absurd (omega arith)

  pub grows_by_step : GrowsBy old new IsNewStep
  grows_by_step = record {
    count = count;
    kept = λ x n e. has_walked new x n (keeps x n (walks old x n e));
    cases = λ x n e. by x n (splits x n (walks new x n e));
  }
    where
      by : (x : Dtv) (n : ℕ) → (Walks old x n × (n < old.count)) ⊎ ((n ≡ old.count) × IsNewStep x) → ((node_of old x ≡ Some n) × (n < old.count)) ⊎ ((n ≡ old.count) × IsNewStep x)
      by x n (inl (w, less)) = inl (has_walked old x n w, less)
      by x n (inr h) = inr h

  -- the new node
  pub here_by_step : (x : Dtv) → node_of old x ≡ Some node → node_of new (longer x label) ≡ Some old.count
  here_by_step x e = node_of-longer new x label node (grows_by_step.kept x node e) ∙ steps node label ∙ ap (λ b. cond b (Some old.count) (step_of old node label)) (letter_self (node, label))

  tree_by_step : IsTree new
  tree_by_step = tree_grown old new IsNewStep tree grows_by_step (λ x y h k. same_step x y h k) (longer reached.0 label, here_by_step reached.0 reached.1) bases_in edges_in
    where
      reached : (x : Dtv) × (node_of old x ≡ Some node)
      reached = tree.whole.reached node within

      same_step : (x y : Dtv) → IsNewStep x → IsNewStep y → x ≡ y
      same_step x y (u, e, f) (v, g, h) = f ∙ ap (λ z. longer z label) (tree.single u v node e g) ∙ sym h

      bases_in : (b : Base) (n : ℕ) → base_of new b ≡ Some n → n < new.count
      bases_in b n e = let less = tree.whole.bases_in b n (sym (bases b) ∙ e) in omega arith

      edges_in : (m : ℕ) (l : Label) (n : ℕ) → step_of new m l ≡ Some n → (m < new.count) × (n < new.count)
      edges_in m l n e = by (comes m l n e)
        where
          by : (step_of old m l ≡ Some n) ⊎ ((n ≡ old.count) × (m ≡ node) × (l ≡ label)) → (m < new.count) × (n < new.count)
          by (inl f) = let less = tree.whole.edges_in m l n f in (omega arith, omega arith)
          by (inr (f, g, h)) = (omega arith, omega arith)

  pub grown_by_step : IsTree new × GrowsBy old new IsNewStep
  grown_by_step = (tree_by_step, grows_by_step)
