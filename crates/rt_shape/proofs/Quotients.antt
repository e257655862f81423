-- The graph of the numbers of classes of which nothing is left to be made one.
use Rattle.std.proofs.Common.{◌≡◌, ℕ, ◌<◌, Some, List, length, refl, sym, ap, subst, ◌∙◌}
use Rattle.std.specs.Prelude.{slice_index}
use Rattle.rt_lines.specs.declared.label.Label.TheVariants.{Load, Store}
use Rattle.rt_lines.specs.declared.variable.Dtv.{Dtv}
use Rattle.rt_shape.specs.Graphs.{Graph, bare, step_of, node_of, IsTree, IsShape}
use Rattle.rt_shape.specs.Inside.Classes.{AreStepsOne, IsNumbering, IsQuotient}
use Rattle.rt_shape.proofs.Walks.{Walks, walks, has_walked, node_of-longer}
use Rattle.rt_shape.proofs.Walks.Walks.{at_base, at_letter}

-- numbers of classes from which one label leads to one class
pub number_steps : (tree : Graph) (class number : List ℕ) (count : ℕ) → IsTree tree → length class ≡ tree.count → AreStepsOne tree class → IsNumbering class number count → AreStepsOne tree number
number_steps tree class number count is_tree each steps_one numbering i j m n l k same e f g =
    let in_i = is_tree.whole.edges_in i l m f in
    let in_j = is_tree.whole.edges_in j k n g in
    let classes : slice_index class i ≡ slice_index class j = (numbering.same i j (inside i in_i.0) (inside j in_j.0)).0 e in
    (numbering.same m n (inside m in_i.1) (inside n in_j.1)).1 (steps_one i j m n l k same classes f g)
  where
    inside : (n : ℕ) → n < tree.count → n < length class
    inside n less = subst (λ k. n < k) (sym each) less

module _ (tree : Graph) (class number : List ℕ) (shape : Graph) (is_tree : IsTree tree) (each : length class ≡ tree.count) (steps_one : AreStepsOne tree class)
    (numbering : IsNumbering class number shape.count) (quotient : IsQuotient tree number shape) where
  inside : (n : ℕ) → n < tree.count → n < length class
  inside n less = subst (λ k. n < k) (sym each) less

  -- a variable's node in the tree gives its node in the quotient
  goes_on : (x : Dtv) (n : ℕ) → Walks tree x n → node_of shape x ≡ Some (slice_index number n)
  goes_on x n (at_base b e) = has_walked shape (bare b) (slice_index number n) (at_base b (quotient.bases.on b n e))
  goes_on x n (at_letter {x = y} {m = m} l w e) = node_of-longer shape y l (slice_index number m) (goes_on y m w) ∙ quotient.edges.on m l n e

  pub node_on : (x : Dtv) (n : ℕ) → node_of tree x ≡ Some n → node_of shape x ≡ Some (slice_index number n)
  node_on x n e = goes_on x n (walks tree x n e)

  pub same_class : (m n : ℕ) → m < tree.count → n < tree.count → slice_index number m ≡ slice_index number n → slice_index class m ≡ slice_index class n
  same_class m n less_m less_n e = (numbering.same m n (inside m less_m) (inside n less_n)).0 e

  pub same_number : (m n : ℕ) → m < tree.count → n < tree.count → slice_index class m ≡ slice_index class n → slice_index number m ≡ slice_index number n
  same_number m n less_m less_n e = (numbering.same m n (inside m less_m) (inside n less_n)).1 e

  pub pointers_one : (m i j : ℕ) → step_of shape m Load ≡ Some i → step_of shape m Store ≡ Some j → i ≡ j
  pointers_one m i j e f =
      let a = quotient.edges.back m Load i e in
      let b = quotient.edges.back m Store j f in
      let in_a = is_tree.whole.edges_in a.0 Load a.1 a.3 in
      let in_b = is_tree.whole.edges_in b.0 Store b.1 b.3 in
      let classes : slice_index class a.0 ≡ slice_index class b.0 = same_class a.0 b.0 in_a.0 in_b.0 (a.2 ∙ sym b.2) in
      let one : slice_index class a.1 ≡ slice_index class b.1 = steps_one a.0 b.0 a.1 b.1 Load Store refl classes a.3 b.3 in
      sym a.4 ∙ same_number a.1 b.1 in_a.1 in_b.1 one ∙ b.4

  below : (n k : ℕ) → n < tree.count → slice_index number n ≡ k → k < shape.count
  below n k less e = subst (λ j. j < shape.count) e (numbering.within n (inside n less))

  pub quotient_shape : IsShape shape
  quotient_shape = record {
    whole = record {
      bases_in = λ b k e. let s = quotient.bases.back b k e in below s.0 k (is_tree.whole.bases_in b s.0 s.1) s.2;
      edges_in = λ i l k e. let s = quotient.edges.back i l k e in let within = is_tree.whole.edges_in s.0 l s.1 s.3 in (below s.0 i within.0 s.2, below s.1 k within.1 s.4);
      reached = λ k less. by k (numbering.all k less);
    };
    pointer = pointers_one;
  }
    where
      by : (k : ℕ) → (i : ℕ) × (i < length class) × (slice_index number i ≡ k) → (x : Dtv) × (node_of shape x ≡ Some k)
      by k (i, less, e) = let r = is_tree.whole.reached i (subst (λ j. i < j) each less) in (r.0, node_on r.0 i r.1 ∙ ap Some e)
