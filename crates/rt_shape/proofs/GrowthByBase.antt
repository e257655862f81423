-- Trees that grow by one base.
use Rattle.std.proofs.Common.{◌≡◌, ℕ, ◌+◌, ◌<◌, ◌⊎◌, inl, inr, Bool, true, false, cond, Some, None, refl, sym, ap, subst, ◌∙◌, arith}
use Rattle.rt_lines.specs.declared.label.Label.{Label}
use Rattle.rt_lines.specs.declared.variable.Base.{Base}
use Rattle.rt_lines.specs.declared.variable.Dtv.{Dtv}
use Rattle.rt_lines.specs.Equality.{base_eq}
use Rattle.rt_lines.proofs.Equal.{base_equal}
use Rattle.rt_rules.specs.Rules.{longer}
use Rattle.rt_shape.specs.Graphs.{Graph, bare, base_of, step_of, node_of, IsTree}
use Rattle.rt_shape.proofs.Walks.{Walks, walks, has_walked}
use Rattle.rt_shape.proofs.Walks.Walks.{at_base, at_letter}
use Rattle.rt_shape.proofs.Growth.{GrowsBy, tree_grown}
use Rattle.rt_lines.proofs.Same.{base_self}

-- one base more, with a node more
module _ (old new : Graph) (tree : IsTree old) (base : Base)
    (absent : base_of old base ≡ None) (count : new.count ≡ old.count + 1)
    (bases : (b : Base) → base_of new b ≡ cond (base_eq base b) (Some old.count) (base_of old b))
    (steps : (m : ℕ) (l : Label) → step_of new m l ≡ step_of old m l) where
  stays : (b : Base) (n : ℕ) → base_of old b ≡ Some n → base_of new b ≡ Some n
  stays b n e = by (base_eq base b) refl
    where
      by : (t : Bool) → base_eq base b ≡ t → base_of new b ≡ Some n
      by true f = let there : base_of old base ≡ Some n = subst (λ c. base_of old c ≡ Some n) (sym (base_equal base b f)) e in absurd cc
      by false f = bases b ∙ ap (λ t. cond t (Some old.count) (base_of old b)) f ∙ e

  comes : (b : Base) (n : ℕ) → base_of new b ≡ Some n → (base_of old b ≡ Some n) ⊎ ((n ≡ old.count) × (b ≡ base))
  comes b n e = by (base_eq base b) refl
    where
      by : (t : Bool) → base_eq base b ≡ t → (base_of old b ≡ Some n) ⊎ ((n ≡ old.count) × (b ≡ base))
      by true f =
          let here : Some old.count ≡ Some n = sym (bases b ∙ ap (λ t. cond t (Some old.count) (base_of old b)) f) ∙ e in
          inr (cc, sym (base_equal base b f))
      by false f = inl (sym (bases b ∙ ap (λ t. cond t (Some old.count) (base_of old b)) f) ∙ e)

  keeps : (x : Dtv) (n : ℕ) → Walks old x n → Walks new x n
  keeps x n (at_base b e) = at_base b (stays b n e)
  keeps x n (at_letter {x = y} {m = m} l w e) = at_letter l (keeps y m w) (steps m l ∙ e)

  splits : (x : Dtv) (n : ℕ) → Walks new x n → (Walks old x n × (n < old.count)) ⊎ ((n ≡ old.count) × (x ≡ bare base))
  splits x n (at_base b e) = by (comes b n e)
    where
      by : (base_of old b ≡ Some n) ⊎ ((n ≡ old.count) × (b ≡ base)) → (Walks old (bare b) n × (n < old.count)) ⊎ ((n ≡ old.count) × (bare b ≡ bare base))
      by (inl f) = inl (at_base b f, tree.whole.bases_in b n f)
      by (inr (f, g)) = inr (f, ap bare g)
  splits x n (at_letter {x = y} {m = m} l w e) = by (splits y m w)
    where
      f : step_of old m l ≡ Some n
      f = sym (steps m l) ∙ e

      by : (Walks old y m × (m < old.count)) ⊎ ((m ≡ old.count) × (y ≡ bare base)) → (Walks old (longer y l) n × (n < old.count)) ⊎ ((n ≡ old.count) × (longer y l ≡ bare base))
      by (inl (v, less)) = inl (at_letter l v f, (tree.whole.edges_in m l n f).1)
      by (inr (g, h)) = let in_old = (tree.whole.edges_in m l n f).0 in absurd (omega arith)

  grows_by_base : GrowsBy old new (λ x. x ≡ bare base)
  grows_by_base = record {
    count = count;
    kept = λ x n e. has_walked new x n (keeps x n (walks old x n e));
    cases = λ x n e. by x n (splits x n (walks new x n e));
  }
    where
      by : (x : Dtv) (n : ℕ) → (Walks old x n × (n < old.count)) ⊎ ((n ≡ old.count) × (x ≡ bare base)) → ((node_of old x ≡ Some n) × (n < old.count)) ⊎ ((n ≡ old.count) × (x ≡ bare base))
      by x n (inl (w, less)) = inl (has_walked old x n w, less)
      by x n (inr h) = inr h

  -- the new node
  pub here_by_base : node_of new (bare base) ≡ Some old.count
  here_by_base = has_walked new (bare base) old.count (at_base base (bases base ∙ ap (λ t. cond t (Some old.count) (base_of old base)) (base_self base)))

  tree_by_base : IsTree new
  tree_by_base = tree_grown old new (λ x. x ≡ bare base) tree grows_by_base (λ x y h k. h ∙ sym k) (bare base, here_by_base) bases_in edges_in
    where
      bases_in : (b : Base) (n : ℕ) → base_of new b ≡ Some n → n < new.count
      bases_in b n e = by (comes b n e)
        where
          by : (base_of old b ≡ Some n) ⊎ ((n ≡ old.count) × (b ≡ base)) → n < new.count
          by (inl f) = let less = tree.whole.bases_in b n f in omega arith
          by (inr (f, g)) = omega arith

      edges_in : (m : ℕ) (l : Label) (n : ℕ) → step_of new m l ≡ Some n → (m < new.count) × (n < new.count)
      edges_in m l n e = let less = tree.whole.edges_in m l n (sym (steps m l) ∙ e) in (omega arith, omega arith)

  pub grown_by_base : IsTree new × GrowsBy old new (λ x. x ≡ bare base)
  grown_by_base = (tree_by_base, grows_by_base)
