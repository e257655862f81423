-- Trees that grow by one node.
use Rattle.std.proofs.Common.{◌≡◌, ℕ, ◌+◌, ◌<◌, ◌⊎◌, inl, inr, Some, sym, ap, subst, ◌∙◌, arith}
use Rattle.std.proofs.lemmas.Bool.{cases_eq}
use Rattle.rt_lines.specs.declared.label.Label.{Label}
use Rattle.rt_lines.specs.declared.variable.Base.{Base}
use Rattle.rt_lines.specs.declared.variable.Dtv.{Dtv}
use Rattle.rt_shape.specs.Graphs.{Graph, base_of, step_of, node_of, Has, IsKept, IsTree}

-- each variable's node stays, and what is new is one node, of which a test tells the variables
pub record GrowsBy (old new : Graph) (IsNew : Dtv → Type 0) : Type 0 where
  pub count : new.count ≡ old.count + 1
  pub kept : (x : Dtv) (n : ℕ) → node_of old x ≡ Some n → node_of new x ≡ Some n
  pub cases : (x : Dtv) (n : ℕ) → node_of new x ≡ Some n → ((node_of old x ≡ Some n) × (n < old.count)) ⊎ ((n ≡ old.count) × IsNew x)

-- a tree that grows by one node is a tree, where the node has one variable
pub tree_grown : (old new : Graph) (IsNew : Dtv → Type 0) → IsTree old → GrowsBy old new IsNew → ((x y : Dtv) → IsNew x → IsNew y → x ≡ y) → (x : Dtv) × (node_of new x ≡ Some old.count) →
    ((b : Base) (n : ℕ) → base_of new b ≡ Some n → n < new.count) → ((m : ℕ) (l : Label) (n : ℕ) → step_of new m l ≡ Some n → (m < new.count) × (n < new.count)) → IsTree new
tree_grown old new IsNew tree grows unique here bases_in edges_in = record {
  whole = record { bases_in = bases_in; edges_in = edges_in; reached = reached };
  single = λ x y n e f. single x y n (grows.cases x n e) (grows.cases y n f);
}
  where
    reached : (n : ℕ) → n < new.count → (x : Dtv) × (node_of new x ≡ Some n)
    reached n less = by (cases_eq n old.count)
      where
        by : (n ≡ old.count) ⊎ (n ≡ old.count → ⊥) → (x : Dtv) × (node_of new x ≡ Some n)
        by (inl e) = (here.0, here.1 ∙ ap Some (sym e))
        by (inr ne) =
            let count = grows.count in
            let below : n < old.count = omega arith in
            let r = tree.whole.reached n below in
            (r.0, grows.kept r.0 n r.1)

    single : (x y : Dtv) (n : ℕ) → ((node_of old x ≡ Some n) × (n < old.count)) ⊎ ((n ≡ old.count) × IsNew x) → ((node_of old y ≡ Some n) × (n < old.count)) ⊎ ((n ≡ old.count) × IsNew y) → x ≡ y
    single x y n (inl (e, less)) (inl (f, more)) = tree.single x y n e f
    single x y n (inl (e, less)) (inr (f, h)) = absurd (omega arith)
    single x y n (inr (e, h)) (inl (f, less)) = absurd (omega arith)
    single x y n (inr (e, h)) (inr (f, k)) = unique x y h k

-- what an entering function says, where the tree before is seen by its fields and by its value
pub node_kept : (inside old new : Graph) (IsNew : Dtv → Type 0) → inside ≡ old → GrowsBy inside new IsNew → IsKept old new
node_kept inside old new IsNew same grows x n e = grows.kept x n (subst (λ g. node_of g x ≡ Some n) (sym same) e)

pub has_cases : (inside old new : Graph) (IsNew : Dtv → Type 0) → inside ≡ old → GrowsBy inside new IsNew → (x : Dtv) → Has new x → Has old x ⊎ IsNew x
has_cases inside old new IsNew same grows x (n, e) = by (grows.cases x n e)
  where
    by : ((node_of inside x ≡ Some n) × (n < inside.count)) ⊎ ((n ≡ inside.count) × IsNew x) → Has old x ⊎ IsNew x
    by (inl (f, less)) = inl (n, subst (λ g. node_of g x ≡ Some n) same f)
    by (inr (f, h)) = inr h
