-- The tree of the classes of a tree's nodes is the least tree.
use Rattle.std.proofs.Common.{◌≡◌, ℕ, ◌+◌, ◌<◌, ◌≤◌, ◌⊎◌, inl, inr, true, false, Option, Some, None, List, [], ◌∷◌, ◌++◌, map, length, drop, get_or, refl, sym, ap, subst, ◌∙◌, arith, length-append}
use Rattle.std.specs.Prelude.{slice_index}
use Rattle.std.specs.List.{AllByRecursion, slice_get}
use Rattle.std.specs.Map.{lookup}
use Rattle.std.specs.Option.{option_map, option_and_then}
use Rattle.std.specs.declared.cmp.Ordering.TheVariants.{Less}
use Rattle.std.proofs.lemmas.List.{get_or_append_left, get_or_push}
use Rattle.std.proofs.lemmas.List.Elements.{All-from_get_or}
use Rattle.std.proofs.lemmas.Option.{slice_get-get_or}
use Rattle.rt_lines.specs.declared.label.Label.{Label}
use Rattle.rt_lines.specs.Words.{IsLabel}
use Rattle.rt_lines.specs.Equality.{label_eq}
use Rattle.rt_lines.proofs.Equal.{label_equal}
use Rattle.rt_tree.specs.Labels.{label_cmp}
use Rattle.rt_tree.specs.Trees.{Node, Nodes, leaf, edge_of, step_of, walk, marks_of, marks_from, ends_of, node_at, AreSame, AreLike, IsReached, IsMinimal, IsBreadthFirst, Stand, AreOrdered, IsEdge, IsNode, IsTree, IsReachedTree}
use Rattle.rt_tree.specs.Pairs.{ArePaired}
use Rattle.rt_tree.specs.Partitions.{AreClassesOf}
use Rattle.rt_tree.specs.Inside.Quotients.{IsEndOf, IsImage, AreNumbers, Extends, Stands, IsQuotientOf, IsQuotient}
use Rattle.rt_tree.proofs.Comparing.{not_less_itself}
use Rattle.rt_tree.proofs.Edges.{each_weaker}
use Rattle.rt_tree.proofs.Words.{step_in, walk_on}
use Rattle.rt_tree.proofs.One.{at_drop}
use Rattle.rt_tree.proofs.Alike.{edges_of, at_node, paired_lookup}
use Rattle.rt_tree.proofs.Numbers.{paired_weaker, end_kept, stands_more, all_numbered}
use Rattle.rt_lines.proofs.Same.{label_self}
use Rattle.rt_base.proofs.Numbers.{last_or_before, after_one}
use Rattle.rt_base.proofs.Options.{past_back, here_back}
use Rattle.rt_base.proofs.Lists.{All-at}
use Rattle.std.proofs.lemmas.Bool.{cases_Bool}

apart : (k l : Label) → label_cmp k l ≡ Less → label_eq l k ≡ false
apart k l less = by (cases_Bool (label_eq l k))
  where
    by : (label_eq l k ≡ true) ⊎ (label_eq l k ≡ false) → label_eq l k ≡ false
    by (inr e) = e
    by (inl e) = absurd (not_less_itself k (subst (λ j. label_cmp k j ≡ Less) (label_equal l k e) less))

abbrev AreFound : List (Label × ℕ) → List (Label × ℕ) → Type 0
AreFound edges some = AllByRecursion (λ (edge : Label × ℕ). lookup (label_eq edge.0) edges ≡ Some edge.1) some

found_behind : (x : Label × ℕ) (xs some : List (Label × ℕ)) → AllByRecursion (λ (later : Label × ℕ). label_cmp x.0 later.0 ≡ Less) some → AreFound xs some → AreFound (x ∷ xs) some
found_behind x xs [] less h = tt
found_behind x xs (edge ∷ some) less h = (past_back (label_eq edge.0 x.0) x.1 (lookup (label_eq edge.0) xs) edge.1 (apart x.0 edge.0 less.0) h.0, found_behind x xs some less.1 h.1)

all_found : (edges : List (Label × ℕ)) → AreOrdered edges → AreFound edges edges
all_found [] h = tt
all_found (x ∷ xs) h = (here_back (label_eq x.0 x.0) x.1 (lookup (label_eq x.0) xs) (label_self x.0), found_behind x xs xs h.0 (all_found xs h.1))

-- nodes that stand are reached
abbrev ReachedBelow : Nodes → ℕ → Type 0
ReachedBelow t before = (i : ℕ) → i < before → IsReached t i

ends_reached : (t : Nodes) (n : ℕ) → IsReached t n → (edges : List (Label × ℕ)) → AllByRecursion (λ (edge : Label × ℕ). step_of t n edge.0 ≡ Some edge.1) edges → (before after : ℕ) → ReachedBelow t before → Stand before (map (λ (edge : Label × ℕ). edge.1) edges) after → ReachedBelow t after
ends_reached t n from [] found before after below stand = subst (ReachedBelow t) stand below
ends_reached t n from (edge ∷ edges) found before after below (inl seen) = ends_reached t n from edges found.1 before after below seen.1
ends_reached t n from (edge ∷ edges) found before after below (inr new) = ends_reached t n from edges found.1 (before + 1) after more new.1
  where
    here : IsReached t before
    here = subst (IsReached t) new.0 (from.0 ++ edge.0 ∷ [], walk_on t 0 from.0 n edge.0 edge.1 from.1 found.0)

    more : ReachedBelow t (before + 1)
    more i less = by (last_or_before before i less)
      where
        by : (i < before) ⊎ (before ≡ i) → IsReached t i
        by (inl old) = below i old
        by (inr same) = subst (IsReached t) same here

stands_reached : (t : Nodes) → ((n : ℕ) (node : Node) → slice_get t n ≡ Some node → AreOrdered node.edges) → (n before after : ℕ) (nodes : Nodes) → drop n t ≡ nodes → ReachedBelow t before → Stands n before nodes after → ReachedBelow t after
stands_reached t ordered n before after [] e below h = subst (ReachedBelow t) h below
stands_reached t ordered n before after (node ∷ nodes) e below h =
    let at = at_drop t n node nodes e in
    let found : AllByRecursion (λ (edge : Label × ℕ). step_of t n edge.0 ≡ Some edge.1) node.edges =
    each_weaker (λ (edge : Label × ℕ). lookup (label_eq edge.0) node.edges ≡ Some edge.1) (λ (edge : Label × ℕ). step_of t n edge.0 ≡ Some edge.1)
    (λ edge is. ap (option_and_then (edge_of edge.0)) at.0 ∙ is) node.edges (all_found node.edges (ordered n node at.0)) in
    stands_reached t ordered (n + 1) h.1 after nodes (subst (λ k. drop k t ≡ nodes) (after_one n) at.1) (ends_reached t n (below n h.0) node.edges found before h.1 below h.2) h.3

root_below : (t : Nodes) → ReachedBelow t 1
root_below t i less = let is : 0 ≡ i = omega arith in subst (IsReached t) is ([], refl)

-- words from two nodes of two trees
stepped : (a b : Nodes) (w : List Label) (o p : Option ℕ) → ((o ≡ None) × (p ≡ None)) ⊎ ((i : ℕ) × (j : ℕ) × (o ≡ Some i) × (p ≡ Some j) × (marks_from a i w ≡ marks_from b j w)) → option_and_then (λ m. option_map marks_of (slice_get a m)) (option_and_then (λ m. walk a m w) o) ≡ option_and_then (λ m. option_map marks_of (slice_get b m)) (option_and_then (λ m. walk b m w) p)
stepped a b w o p (inl h) =
    ap (λ q. option_and_then (λ m. option_map marks_of (slice_get a m)) (option_and_then (λ m. walk a m w) q)) h.0
    ∙ sym (ap (λ q. option_and_then (λ m. option_map marks_of (slice_get b m)) (option_and_then (λ m. walk b m w) q)) h.1)
stepped a b w o p (inr h) =
    ap (λ q. option_and_then (λ m. option_map marks_of (slice_get a m)) (option_and_then (λ m. walk a m w) q)) h.2
    ∙ (h.4 ∙ sym (ap (λ q. option_and_then (λ m. option_map marks_of (slice_get b m)) (option_and_then (λ m. walk b m w) q)) h.3))

paired_edges : (R : ℕ → ℕ → Type 0) (count : ℕ) → ((i j : ℕ) → R i j → i < count) → (more : ℕ) (xs ys : List (Label × ℕ)) → ArePaired R xs ys → AllByRecursion (IsEdge more) ys → AllByRecursion (IsEdge count) xs
paired_edges R count f more [] [] h good = tt
paired_edges R count f more [] (y ∷ ys) h good = absurd h
paired_edges R count f more (x ∷ xs) [] h good = absurd h
paired_edges R count f more (x ∷ xs) (y ∷ ys) h good =
    let edge : IsEdge count x = (subst IsLabel (sym h.0) good.0.0, f x.1 y.1 h.1) in
    (edge, paired_edges R count f more xs ys h.2 good.1)

paired_less : (R : ℕ → ℕ → Type 0) (l : Label) (xs ys : List (Label × ℕ)) → ArePaired R xs ys → AllByRecursion (λ (later : Label × ℕ). label_cmp l later.0 ≡ Less) ys → AllByRecursion (λ (later : Label × ℕ). label_cmp l later.0 ≡ Less) xs
paired_less R l [] [] h less = tt
paired_less R l [] (y ∷ ys) h less = absurd h
paired_less R l (x ∷ xs) [] h less = absurd h
paired_less R l (x ∷ xs) (y ∷ ys) h less = (subst (λ k. label_cmp l k ≡ Less) (sym h.0) less.0, paired_less R l xs ys h.2 less.1)

paired_ordered : (R : ℕ → ℕ → Type 0) (xs ys : List (Label × ℕ)) → ArePaired R xs ys → AreOrdered ys → AreOrdered xs
paired_ordered R [] [] h ordered = tt
paired_ordered R [] (y ∷ ys) h ordered = absurd h
paired_ordered R (x ∷ xs) [] h ordered = absurd h
paired_ordered R (x ∷ xs) (y ∷ ys) h ordered =
    (paired_less R x.0 xs ys h.2 (subst (λ k. AllByRecursion (λ (later : Label × ℕ). label_cmp k later.0 ≡ Less) ys) (sym h.0) ordered.0), paired_ordered R xs ys h.2 ordered.1)

-- the least tree of a tree
pub record IsLeastOf (t least : Nodes) : Type 0 where
  pub whole : IsReachedTree least
  pub same : AreSame t least
  pub one : IsMinimal least
  pub numbered : IsBreadthFirst least

pub class_within : (t : Nodes) (class : List ℕ) → AreClassesOf t class → (x : ℕ) → x < length t → slice_index class x < length t
class_within t class are x less = let le = are.first x x less less (λ w. refl) in omega arith

pub order_within : (t : Nodes) (class order : List ℕ) (least : Nodes) → AreClassesOf t class → IsQuotientOf t class order least → (k : ℕ) → k < length order → slice_index order k < length t
order_within t class order least are is k less = let h = is.named k less in subst (λ n. n < length t) (sym h.2) (class_within t class are h.0 h.1)

-- numbers tell classes apart
one_number : (number : List (Option ℕ)) (order : List ℕ) → AreNumbers number order → (m n : ℕ) → m < length order → n < length order → slice_index order m ≡ slice_index order n → m ≡ n
one_number number order are m n less less' e =
    let both : ◌≡◌ {A = Option ℕ} (Some m) (Some n) = sym (are.there m less) ∙ (ap (λ c. get_or number c None) e ∙ are.there n less') in
    cc

-- one node more
pub quotient_more : (t : Nodes) (class order new : List ℕ) (number : List (Option ℕ)) (least : Nodes) (image : Node) → AreClassesOf t class → IsQuotientOf t class order least → length least < length order → Extends class order new → AreNumbers number new → length number ≡ length t → IsImage new class image (node_at t (slice_index order (length least))) → Stand (length order) (ends_of image) (length new) → IsQuotientOf t class new (least ++ image ∷ [])
quotient_more t class order new number least image are is less longer numbers each made stand = record {
  most = let l = longer.longer in let m = one_more in omega arith;
  few = let f = numbers.filled in omega arith;
  some = let l = longer.longer in let s = is.some in omega arith;
  root = longer.front 0 is.some ∙ is.root;
  named = λ k inside. named k inside (cases k (length order));
  one = one_number number new numbers;
  nodes = λ k inside. image_at k (last_or_before (length least) k (let m = one_more in omega arith));
  stands = stands_more 0 1 (length order) (length new) least image is.stands (omega arith) stand;
}
  where
    one_more : length (least ++ image ∷ []) ≡ length least + 1
    one_more = length-append least (image ∷ [])

    cases : (i j : ℕ) → (i < j) ⊎ (j ≤ i)
    cases i j = search (arith)

    named : (k : ℕ) → k < length new → (k < length order) ⊎ (length order ≤ k) → (x : ℕ) × (x < length t) × (slice_index new k ≡ slice_index class x)
    named k inside (inl old) = let h = is.named k old in (h.0, h.1, longer.front k old ∙ h.2)
    named k inside (inr out) = let h = longer.named k out inside in (h.0, subst (λ n. h.0 < n) are.each h.1, h.2)

    kept : (k : ℕ) → k < length least → IsImage new class (node_at least k) (node_at t (slice_index new k))
    kept k inside =
        let old = is.nodes k inside in
        let le = is.most in
        subst (λ x. IsImage new class (node_at least k) (node_at t x)) (sym (longer.front k (omega arith)))
        (record {
          marks = old.marks;
          edges = paired_weaker (IsEndOf order class) (IsEndOf new class) (end_kept class order new longer) (node_at least k).edges (node_at t (slice_index order k)).edges old.edges;
        })

    image_at : (k : ℕ) → (k < length least) ⊎ (length least ≡ k) → IsImage new class (node_at (least ++ image ∷ []) k) (node_at t (slice_index new k))
    image_at k (inl inside) = subst (λ node. IsImage new class node (node_at t (slice_index new k))) (sym (get_or_append_left least (image ∷ []) (leaf 0 0) k inside)) (kept k inside)
    image_at k (inr same) =
        subst (λ j. IsImage new class (node_at (least ++ image ∷ []) j) (node_at t (slice_index new j))) same
        (subst (λ node. IsImage new class node (node_at t (slice_index new (length least)))) (sym (get_or_push least image (leaf 0 0) (length least) refl))
        (subst (λ x. IsImage new class image (node_at t x)) (sym (longer.front (length least) less)) made))

module _ (t : Nodes) (good : IsTree t) (class : List ℕ) (are : AreClassesOf t class) (least : Nodes) (order : List ℕ) (each : length order ≡ length least) (is : IsQuotientOf t class order least) where
  class_in : (x : ℕ) → x < length t → slice_index class x < length t
  class_in = class_within t class are

  inside : (k : ℕ) → k < length least → k < length order
  inside k less = omega arith

  order_in : (k : ℕ) → k < length least → slice_index order k < length t
  order_in k less = order_within t class order least are is k (inside k less)

  -- nodes that are alike are of one class
  one_class : (x y : ℕ) → x < length t → y < length t → AreLike t x y → slice_index class x ≡ slice_index class y
  one_class x y less less' like =
      let a = are.first x (slice_index class y) less (class_in y less') (λ w. like w ∙ are.like y less' w) in
      let b = are.first y (slice_index class x) less' (class_in x less) (λ w. sym (like w) ∙ are.like x less w) in
      omega arith

  node_good : (k : ℕ) → k < length least → IsNode (length least) (node_at least k)
  node_good k less =
      let from = edges_of t good.nodes (slice_index order k) (order_in k less) in
      let image = is.nodes k less in
      record {
        each = paired_edges (IsEndOf order class) (length least) (λ i j end. subst (λ n. i < n) each end.0) (length t) (node_at least k).edges (node_at t (slice_index order k)).edges image.edges from.each;
        ordered = paired_ordered (IsEndOf order class) (node_at least k).edges (node_at t (slice_index order k)).edges image.edges from.ordered;
      }

  least_tree : IsTree least
  least_tree = record {
    rooted = let h = is.some in omega arith;
    numbered = let h = is.few in let g = good.numbered in omega arith;
    nodes = All-from_get_or (IsNode (length least)) least (leaf 0 0) node_good;
  }

  -- a node has the words and marks of its class
  same_words : (w : List Label) (k : ℕ) → k < length least → marks_from least k w ≡ marks_from t (slice_index order k) w
  same_words [] k less =
      ap (option_map marks_of) (slice_get-get_or least k (leaf 0 0) less)
      ∙ (ap Some (is.nodes k less).marks ∙ sym (ap (option_map marks_of) (slice_get-get_or t (slice_index order k) (leaf 0 0) (order_in k less))))
  same_words (l ∷ w) k less =
      stepped least t w (step_of least k l) (step_of t (slice_index order k) l)
      (with_words (λ i in_least. same_words w i in_least) (step_of least k l) (step_of t (slice_index order k) l) steps (λ j e. step_in t good.nodes (slice_index order k) j l e))
    where
      steps : ((step_of least k l ≡ None) × (step_of t (slice_index order k) l ≡ None)) ⊎ ((i : ℕ) × (j : ℕ) × (step_of least k l ≡ Some i) × (step_of t (slice_index order k) l ≡ Some j) × IsEndOf order class i j)
      steps =
          subst (λ o. ((o ≡ None) × (step_of t (slice_index order k) l ≡ None)) ⊎ ((i : ℕ) × (j : ℕ) × (o ≡ Some i) × (step_of t (slice_index order k) l ≡ Some j) × IsEndOf order class i j)) (sym (at_node least k l less))
          (subst (λ o. ((lookup (label_eq l) (node_at least k).edges ≡ None) × (o ≡ None)) ⊎ ((i : ℕ) × (j : ℕ) × (lookup (label_eq l) (node_at least k).edges ≡ Some i) × (o ≡ Some j) × IsEndOf order class i j)) (sym (at_node t (slice_index order k) l (order_in k less)))
          (paired_lookup (IsEndOf order class) (node_at least k).edges (node_at t (slice_index order k)).edges l (is.nodes k less).edges))

      with_words : ((i : ℕ) → i < length least → marks_from least i w ≡ marks_from t (slice_index order i) w) → (o p : Option ℕ) → ((o ≡ None) × (p ≡ None)) ⊎ ((i : ℕ) × (j : ℕ) × (o ≡ Some i) × (p ≡ Some j) × IsEndOf order class i j) → ((j : ℕ) → p ≡ Some j → j < length t) → ((o ≡ None) × (p ≡ None)) ⊎ ((i : ℕ) × (j : ℕ) × (o ≡ Some i) × (p ≡ Some j) × (marks_from least i w ≡ marks_from t j w))
      with_words rest o p (inl h) f = inl h
      with_words rest o p (inr h) f =
          let in_least : h.0 < length least = subst (λ n. h.0 < n) each h.4.0 in
          inr (h.0, h.1, h.2, h.3, rest h.0 in_least ∙ (ap (λ x. marks_from t x w) h.4.1 ∙ sym (are.like h.1 (f h.1 h.3) w)))

  same_tree : AreSame t least
  same_tree w =
      let some : 0 < length least = let h = is.some in omega arith in
      are.like 0 good.rooted w ∙ (ap (λ x. marks_from t x w) (sym is.root) ∙ sym (same_words w 0 some))

  node_ordered : (n : ℕ) (node : Node) → slice_get least n ≡ Some node → AreOrdered node.edges
  node_ordered n node e = (All-at (IsNode (length least)) least n node least_tree.nodes e).ordered

  all_reached : (n : ℕ) → n < length least → IsReached least n
  all_reached n less = stands_reached least node_ordered 0 1 (length order) least refl (root_below least) is.stands n (inside n less)

  apart_nodes : (m n : ℕ) → m < length least → n < length least → AreLike least m n → m ≡ n
  apart_nodes m n less less' like =
      let a = is.named m (inside m less) in
      let b = is.named n (inside n less') in
      let words : AreLike t (slice_index order m) (slice_index order n) = λ w. sym (same_words w m less) ∙ (like w ∙ same_words w n less') in
      let ends : AreLike t a.0 b.0 = λ w.
      are.like a.0 a.1 w ∙ (ap (λ x. marks_from t x w) (sym a.2) ∙ (words w ∙ (ap (λ x. marks_from t x w) b.2 ∙ sym (are.like b.0 b.1 w)))) in
      is.one m n (inside m less) (inside n less') (a.2 ∙ (one_class a.0 b.0 a.1 b.1 ends ∙ sym b.2))

  whole_tree : IsReachedTree least
  whole_tree = record { whole = least_tree; reached = all_reached }

  least_one : IsMinimal least
  least_one = record { reached = all_reached; one = apart_nodes }

  numbered : IsBreadthFirst least
  numbered = all_numbered 0 1 (length order) least is.stands (omega arith)

  pub is_least : IsLeastOf t least
  is_least = record { whole = whole_tree; same = same_tree; one = least_one; numbered = numbered }

pub quotient_least : (t : Nodes) → IsTree t → (class : List ℕ) → AreClassesOf t class → (least : Nodes) → IsQuotient t class least → IsLeastOf t least
quotient_least t good class are least q = is_least t good class are least q.0 q.1 q.2
