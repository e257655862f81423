-- The graph of the classes of what the lines name is their shape.
use Rattle.std.proofs.Common.{◌≡◌, ℕ, ◌<◌, inl, inr, Some, IsSome, List, Contains, sym, ap, subst, ◌∙◌}
use Rattle.std.specs.Prelude.{slice_index}
use Rattle.rt_lines.specs.declared.variable.Dtv.{Dtv}
use Rattle.rt_lines.specs.declared.line.Line.{Line}
use Rattle.rt_lines.specs.declared.line.Line.TheVariants.{Var, Same, Sub, Low, Up}
use Rattle.rt_lines.specs.Orders.{Below}
use Rattle.rt_rules.specs.Rules.{longer, HasSide, Derivable}
use Rattle.rt_rules.specs.Rules.Derivable.{same_letter, same_self, same_back, same_chain, same_longer}
use Rattle.rt_rules.proofs.Carry.{are_there}
use Rattle.rt_shape.specs.Graphs.{Graph, bare, node_of, IsTree}
use Rattle.rt_shape.specs.Shapes.{IsShapeOf, IsNaming, Equates, ArePairs}
use Rattle.rt_shape.specs.Inside.Classes.{Joined, AreClasses, IsClosed, IsNumbering, IsQuotient}
use Rattle.rt_shape.specs.Inside.Classes.Joined.{joined_back, joined_chain}
use Rattle.rt_shape.proofs.Walks.{Walks, walks, has_walked, one_node, node_of-longer}
use Rattle.rt_shape.proofs.Walks.Walks.{at_base, at_letter}
use Rattle.rt_shape.proofs.Within.{walked_within}
use Rattle.rt_shape.proofs.Models.{HaveOne, IsModel, holds}
use Rattle.rt_shape.proofs.JoinedSame.{there, same_from_joined}
use Rattle.rt_shape.proofs.Quotients.{node_on, same_class, same_number, pointers_one}
use Rattle.rt_base.proofs.Options.{some_of, is_some_of}

equated_sides : (l : Line) (x y : Dtv) → Equates l x y → HasSide l x × HasSide l y
equated_sides (Var z) x y h = absurd h
equated_sides (Same u v) x y (e, f) = (inl e, inr f)
equated_sides (Sub u v) x y (e, f) = (inl e, inr f)
equated_sides (Low k z) x y h = absurd h
equated_sides (Up z k) x y h = absurd h

module _ (lines : List Line) (tree : Graph) (pairs : List (ℕ × ℕ)) (class number : List ℕ) (shape : Graph)
    (is_tree : IsTree tree) (naming : IsNaming lines tree) (are : ArePairs lines tree pairs)
    (classes : AreClasses tree pairs class) (closed : IsClosed tree pairs class)
    (numbering : IsNumbering class number shape.count) (quotient : IsQuotient tree number shape) where
  within : (x : Dtv) (n : ℕ) → Walks tree x n → n < tree.count
  within = walked_within tree is_tree

  on : (x : Dtv) (n : ℕ) → node_of tree x ≡ Some n → node_of shape x ≡ Some (slice_index number n)
  on = node_on tree class number shape is_tree classes.each closed.steps_one numbering quotient

  in_class : (m n : ℕ) → m < tree.count → n < tree.count → slice_index number m ≡ slice_index number n → slice_index class m ≡ slice_index class n
  in_class = same_class tree class number shape is_tree classes.each closed.steps_one numbering quotient

  in_number : (m n : ℕ) → m < tree.count → n < tree.count → slice_index class m ≡ slice_index class n → slice_index number m ≡ slice_index number n
  in_number = same_number tree class number shape is_tree classes.each closed.steps_one numbering quotient

  model : IsModel lines shape
  model = record {
    sides = λ l x c h. let n = naming.sides l x c h in (slice_index number n.0, on x n.0 n.1);
    equated = equated;
    pointers = pointers_one tree class number shape is_tree classes.each closed.steps_one numbering quotient;
  }
    where
      equated : (l : Line) (x y : Dtv) → Contains lines l → Equates l x y → HaveOne shape x y
      equated l x y c q =
          let sides = equated_sides l x y q in
          let i = naming.sides l x c sides.0 in
          let j = naming.sides l y c sides.1 in
          let one : slice_index class i.0 ≡ slice_index class j.0 = closed.pairs_one i.0 j.0 (are.found l i.0 j.0 c (x, y, q, i.1, j.1)) in
          let same : slice_index number i.0 ≡ slice_index number j.0 = in_number i.0 j.0 (within x i.0 (walks tree x i.0 i.1)) (within y j.0 (walks tree y j.0 j.1)) one in
          (slice_index number j.0, on x i.0 i.1 ∙ ap Some same, on y j.0 j.1)

  module _ (order : Below) where
    same_of_joined : {i j : ℕ} → Joined tree pairs i j → (x y : Dtv) → node_of tree x ≡ Some i → node_of tree y ≡ Some j → Derivable order lines (Same x y)
    same_of_joined d = same_from_joined order lines tree pairs is_tree naming are d

    joined : (m n : ℕ) → m < tree.count → n < tree.count → slice_index number m ≡ slice_index number n → Joined tree pairs m n
    joined m n less_m less_n e =
        let one = in_class m n less_m less_n e in
        joined_chain (classes.sound m less_m) (joined_back (subst (Joined tree pairs n) (sym one) (classes.sound n less_n)))

    -- a node of the shape is the number of a node of the tree whose variable has the shape
    back : (x : Dtv) (k : ℕ) → Walks shape x k → (n : ℕ) × (z : Dtv) × (slice_index number n ≡ k) × (node_of tree z ≡ Some n) × Derivable order lines (Same x z)
    back x k (at_base b e) =
        let s = quotient.bases.back b k e in
        let here : node_of tree (bare b) ≡ Some s.0 = has_walked tree (bare b) s.0 (at_base b s.1) in
        (s.0, bare b, s.2, here, same_self (there order lines tree pairs is_tree naming are (bare b) (s.0, here)))
    back x k (at_letter {x = y} {m = m} l w e) =
        let h = back y m w in
        let s = quotient.edges.back m l k e in
        let less = is_tree.whole.edges_in s.0 l s.1 s.3 in
        let u = is_tree.whole.reached s.0 less.0 in
        let to_n : node_of tree (longer u.0 l) ≡ Some s.1 = node_of-longer tree u.0 l s.0 u.1 ∙ s.3 in
        let across : Derivable order lines (Same y u.0) = same_chain h.4 (same_of_joined (joined h.0 s.0 (within h.1 h.0 (walks tree h.1 h.0 h.3)) less.0 (h.2 ∙ sym s.2)) h.1 u.0 h.3 u.1) in
        let named : Derivable order lines (Var (longer u.0 l)) = there order lines tree pairs is_tree naming are (longer u.0 l) (s.1, to_n) in
        (s.1, longer u.0 l, s.4, to_n, same_longer l across (same_letter l (same_back across) named))

    same_of_one : (x y : Dtv) (m n : ℕ) → node_of shape x ≡ Some m → node_of shape y ≡ Some n → m ≡ n → Derivable order lines (Same x y)
    same_of_one x y m n e f same =
        let a = back x m (walks shape x m e) in
        let b = back y n (walks shape y n f) in
        let less_a = within a.1 a.0 (walks tree a.1 a.0 a.3) in
        let less_b = within b.1 b.0 (walks tree b.1 b.0 b.3) in
        same_chain a.4 (same_chain (same_of_joined (joined a.0 b.0 less_a less_b (a.2 ∙ same ∙ sym b.2)) a.1 b.1 a.3 b.3) (same_back b.4))

    one_of_same : (x y : Dtv) (m n : ℕ) → node_of shape x ≡ Some m → node_of shape y ≡ Some n → Derivable order lines (Same x y) → m ≡ n
    one_of_same x y m n e f d =
        let h = holds order lines shape model d in
        one_node shape x m h.0 e h.1 ∙ one_node shape y h.0 n h.2 f

    there_of_node : (x : Dtv) → IsSome (node_of shape x) → Derivable order lines (Var x)
    there_of_node x h = let n = some_of (node_of shape x) h in (are_there order lines (back x n.0 (walks shape x n.0 n.1)).4).0

    node_of_there : (x : Dtv) → Derivable order lines (Var x) → IsSome (node_of shape x)
    node_of_there x d = let h = holds order lines shape model d in is_some_of (node_of shape x) h.0 h.1

  pub shape_of_lines : IsShapeOf lines shape
  shape_of_lines = record {
    there = λ order x. (there_of_node order x, node_of_there order x);
    one = λ order x y m n e f. (same_of_one order x y m n e f, one_of_same order x y m n e f);
  }
