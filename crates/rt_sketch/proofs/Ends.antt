-- The load and the store of a node of a sketch lead to one node, and lines have one sketch.
use Rattle.std.proofs.Common.{◌≡◌, ℕ, inl, inr, Option, Some, None, List, [], ◌∷◌, ◌++◌, refl, ap, sym, ◌∙◌}
use Rattle.std.specs.Prelude.{slice_get}
use Rattle.std.proofs.lemmas.Option.{slice_get_within}
use Rattle.rt_lines.specs.declared.label.Label.{Label}
use Rattle.rt_lines.specs.declared.label.Label.TheVariants.{Load, Store}
use Rattle.rt_lines.specs.declared.variable.Dtv.{Dtv}
use Rattle.rt_lines.specs.declared.line.Line.{Line}
use Rattle.rt_lines.specs.declared.line.Line.TheVariants.{Low, Up, Var}
use Rattle.rt_lines.specs.Orders.{Below, IsAtOrBelow}
use Rattle.rt_rules.specs.Rules.{longer, Derivable}
use Rattle.rt_loose.specs.Kinds.{Flips}
use Rattle.rt_loose.specs.Laws.{IsOneEnd}
use Rattle.rt_loose.specs.Loose.{IsLoose}
use Rattle.rt_loose.proofs.Lawful.{pointer_law}
use Rattle.rt_lattice.specs.Bounds.{IsAntisymmetric}
use Rattle.rt_tree.specs.Laws.{OneTree}
use Rattle.rt_tree.specs.Trees.{AreSame, Nodes, IsTree, edge_of, marks_from, marks_of, step_of, walk}
use Rattle.rt_tree.proofs.Words.{leads, marked, marks-append, node_of, step_in, then_some, walk_in, walk_on}
use Rattle.rt_sketch.specs.Laws.{OneEndLaw, OneSketch}
use Rattle.rt_sketch.specs.Sketches.{AreMarks, IsAdmitted, IsJoinOf, IsMeetOf, IsSketchOf, of_procedure}
use Rattle.rt_base.proofs.Options.{some_of, is_some_of}

not_empty : (w : List Label) (l : Label) (z : List Label) → (w ++ l ∷ []) ++ z ≡ [] → ⊥
not_empty [] l z e = cc
not_empty (k ∷ w) l z e = cc

module _ (order : Below) (anti : IsAntisymmetric (IsAtOrBelow order) order.count) where
  -- equal properties have one join and one meet
  one_join : (P Q : ℕ → Type 0) (a b : ℕ) → ((k : ℕ) → P k → Q k) → ((k : ℕ) → Q k → P k) → IsJoinOf order P a → IsJoinOf order Q b → a ≡ b
  one_join P Q a b to from p q =
      anti a b p.within q.within (p.least b q.within (λ k h has. q.above k h (to k has))) (q.least a p.within (λ k h has. p.above k h (from k has)))

  one_meet : (P Q : ℕ → Type 0) (a b : ℕ) → ((k : ℕ) → P k → Q k) → ((k : ℕ) → Q k → P k) → IsMeetOf order P a → IsMeetOf order Q b → a ≡ b
  one_meet P Q a b to from p q =
      anti a b p.within q.within (q.greatest a p.within (λ k h has. p.below k h (from k has))) (p.greatest b q.within (λ k h has. q.below k h (to k has)))

  -- what has the same bounds has the same marks
  one_mark : (lines : List Line) (x y : Dtv) (m n : ℕ × ℕ) → IsOneEnd order lines x y → AreMarks order lines x m → AreMarks order lines y n → m ≡ n
  one_mark lines x y (low, up) (low', up') one p q =
      let lows : low ≡ low' = one_join (λ k. IsLoose order lines (Low k x)) (λ k. IsLoose order lines (Low k y)) low low' (λ k. (one.low k).0) (λ k. (one.low k).1) p.low q.low in
      let ups : up ≡ up' = one_meet (λ k. IsLoose order lines (Up x k)) (λ k. IsLoose order lines (Up y k)) up up' (λ k. (one.up k).0) (λ k. (one.up k).1) p.up q.up in
      rw (lows, ups) refl

  module _ (own : ℕ) (lines : List Line) (tree : Nodes) (is_tree : IsTree tree) (sketch : IsSketchOf order own lines tree) where
    -- a word that isn't empty leads somewhere where the lines derive it
    derived : (w : List Label) (n : ℕ) → (w ≡ [] → ⊥) → walk tree 0 w ≡ Some n → Derivable order lines (Var (of_procedure own w))
    derived w n some e = by ((sketch.words w).0 (is_some_of (walk tree 0 w) n e))
      where
        by : IsAdmitted order lines own w → Derivable order lines (Var (of_procedure own w))
        by (inl none) = absurd (some none)
        by (inr d) = d

    -- marks are where a word is admitted
    marks_at : (w : List Label) → IsAdmitted order lines own w → (m : ℕ × ℕ) × (marks_from tree 0 w ≡ Some m)
    marks_at w admitted =
        let to : (n : ℕ) × (walk tree 0 w ≡ Some n) = some_of (walk tree 0 w) ((sketch.words w).1 admitted) in
        let node = node_of tree to.0 (walk_in tree is_tree.nodes 0 w to.0 is_tree.rooted to.1) in
        (marks_of node.0, marked tree 0 w to.0 node.0 to.1 node.1)

    -- and nowhere else
    admitted_at : (w : List Label) (m : ℕ × ℕ) → marks_from tree 0 w ≡ Some m → IsAdmitted order lines own w
    admitted_at w m e = let to = leads tree 0 w m e in (sketch.words w).0 (is_some_of (walk tree 0 w) to.0 to.1)

    marks_there : (w : List Label) → Derivable order lines (Var (of_procedure own w)) → (m : ℕ × ℕ) × (marks_from tree 0 w ≡ Some m)
    marks_there w d = marks_at w (inr d)

    -- two words, behind which there are the same bounds, have the same marks
    same_marks : (u v : List Label) → (u ≡ [] → ⊥) → (v ≡ [] → ⊥) → IsOneEnd order lines (of_procedure own u) (of_procedure own v) → marks_from tree 0 u ≡ marks_from tree 0 v
    same_marks u v some some' one = by (marks_from tree 0 u) (marks_from tree 0 v) refl refl
      where
        passed : (m : ℕ × ℕ) → marks_from tree 0 u ≡ Some m → (n : ℕ × ℕ) × (marks_from tree 0 v ≡ Some n)
        passed m e = let to = leads tree 0 u m e in marks_there v (one.words.0 (derived u to.0 some to.1))

        back : (m : ℕ × ℕ) → marks_from tree 0 v ≡ Some m → (n : ℕ × ℕ) × (marks_from tree 0 u ≡ Some n)
        back m e = let to = leads tree 0 v m e in marks_there u (one.words.1 (derived v to.0 some' to.1))

        clash : {A : Type 0} (o : Option A) (x : A) → o ≡ Some x → None ≡ o → ⊥
        clash None x e f = cc
        clash (Some y) x e f = cc

        by : (o p : Option (ℕ × ℕ)) → o ≡ marks_from tree 0 u → p ≡ marks_from tree 0 v → o ≡ p
        by None None e f = refl
        by None (Some n) e f = let there = back n (sym f) in absurd (clash (marks_from tree 0 u) there.0 there.1 e)
        by (Some m) None e f = let there = passed m (sym e) in absurd (clash (marks_from tree 0 v) there.0 there.1 f)
        by (Some m) (Some n) e f =
            ap Some (one_mark lines (of_procedure own u) (of_procedure own v) m n one (sketch.marks u m (sym e)) (sketch.marks v n (sym f)))

    module _ (w : List Label) (n load store : ℕ) (at : walk tree 0 w ≡ Some n) (loads : step_of tree n Load ≡ Some load)
        (stores : step_of tree n Store ≡ Some store) where
      after : (l : Label) (m : ℕ) → step_of tree n l ≡ Some m → walk tree 0 (w ++ l ∷ []) ≡ Some m
      after l m e = walk_on tree 0 w n l m at e

      there : (l : Label) (m : ℕ) → step_of tree n l ≡ Some m → Derivable order lines (Var (longer (of_procedure own w) l))
      there l m e = derived (w ++ l ∷ []) m (ends l) (after l m e)
        where
          ends : (l : Label) → w ++ l ∷ [] ≡ [] → ⊥
          ends l e = not_empty w l [] (ap (λ (u : List Label). u ++ []) e)

      flips : Flips order lines (of_procedure own w)
      flips = (there Load load loads, there Store store stores)

      alike : (z : List Label) → marks_from tree load z ≡ marks_from tree store z
      alike z =
          sym (marks-append tree 0 (w ++ Load ∷ []) z load (after Load load loads))
          ∙ (same_marks ((w ++ Load ∷ []) ++ z) ((w ++ Store ∷ []) ++ z) (not_empty w Load z) (not_empty w Store z) (pointer_law order lines (of_procedure own w) z flips)
          ∙ marks-append tree 0 (w ++ Store ∷ []) z store (after Store store stores))

      ends : load ≡ store
      ends = sketch.minimal.one load store (step_in tree is_tree.nodes n load Load loads) (step_in tree is_tree.nodes n store Store stores) alike

  -- the marks of a variable are one pair
  one_pair : (lines : List Line) (x : Dtv) (m n : ℕ × ℕ) → AreMarks order lines x m → AreMarks order lines x n → m ≡ n
  one_pair lines x (low, up) (low', up') p q =
      let lows : low ≡ low' = one_join (λ k. IsLoose order lines (Low k x)) (λ k. IsLoose order lines (Low k x)) low low' (λ k h. h) (λ k h. h) p.low q.low in
      let ups : up ≡ up' = one_meet (λ k. IsLoose order lines (Up x k)) (λ k. IsLoose order lines (Up x k)) up up' (λ k h. h) (λ k h. h) p.up q.up in
      rw (lows, ups) refl

  -- two sketches have the same words and marks
  are_same : (own : ℕ) (lines : List Line) (a b : Nodes) → IsTree a → IsTree b → IsSketchOf order own lines a → IsSketchOf order own lines b → AreSame a b
  are_same own lines a b is is' sketch sketch' w = by (marks_from a 0 w) (marks_from b 0 w) refl refl
    where
      clash : (o : Option (ℕ × ℕ)) (x : ℕ × ℕ) → o ≡ Some x → None ≡ o → ⊥
      clash None x e f = cc
      clash (Some y) x e f = cc

      by : (o p : Option (ℕ × ℕ)) → o ≡ marks_from a 0 w → p ≡ marks_from b 0 w → o ≡ p
      by None None e f = refl
      by None (Some n) e f =
          let there = marks_at own lines a is sketch w (admitted_at own lines b is' sketch' w n (sym f)) in
          absurd (clash (marks_from a 0 w) there.0 there.1 e)
      by (Some m) None e f =
          let there = marks_at own lines b is' sketch' w (admitted_at own lines a is sketch w m (sym e)) in
          absurd (clash (marks_from b 0 w) there.0 there.1 f)
      by (Some m) (Some n) e f = ap Some (one_pair lines (of_procedure own w) m n (sketch.marks w m (sym e)) (sketch'.marks w n (sym f)))

pub one_sketch : OneTree → OneSketch
one_sketch one_tree order own lines a b anti is is' sketch sketch' =
    one_tree a b is is' sketch.minimal sketch'.minimal sketch.numbered sketch'.numbered (are_same order anti own lines a b is is' sketch sketch')

pub one_end : OneEndLaw
one_end order own lines tree anti is_tree sketch n load store loads stores =
    let node = then_some (edge_of Load) (slice_get tree n) load loads in
    let reached = sketch.minimal.reached n (slice_get_within tree n node.0 node.1) in
    ends order anti own lines tree is_tree sketch reached.0 n load store reached.1 loads stores
