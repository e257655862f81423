-- What is reached in a tree stays reached when the tree grows.
use Rattle.std.proofs.Common.{◌≡◌, ℕ, ◌⊎◌, inl, inr, ◌+◌, ◌-◌, ◌<◌, ◌≤◌, ◌^◌, take, Bool, true, false, cond, Option, Some, None, List, [], ◌∷◌, ◌++◌, length, set, refl, sym, ap, subst, ◌∙◌, arith, length-append}
use Rattle.std.specs.List.{slice_get}
use Rattle.std.specs.Option.{option_and_then}
use Rattle.std.specs.Map.{lookup}
use Rattle.std.specs.Ordering.{is_lt}
use Rattle.std.proofs.lemmas.Bool.{cases_eq, cases_Bool}
use Rattle.std.proofs.lemmas.List.{length-set, get_or-set_same, get_or-set_other, set-get_or}
use Rattle.std.proofs.lemmas.Option.{slice_get-get_or, slice_get_within}
use Rattle.rt_lines.specs.declared.label.Label.{Label}
use Rattle.rt_lines.specs.Words.{IsLabel}
use Rattle.rt_lines.specs.Equality.{label_eq}
use Rattle.rt_lines.proofs.Equal.{label_equal}
use Rattle.rt_tree.specs.Labels.{label_cmp}
use Rattle.rt_tree.specs.Trees.{Node, Nodes, leaf, edge_of, step_of, walk, node_at, with_edge, longer_node, joined, IsReached, IsReachedTree}
use Rattle.rt_tree.specs.Partitions.{IsGraph}
use Rattle.rt_tree.proofs.Words.{then_some, walk_on}
use Rattle.rt_tree.proofs.Growing.{get-front, with_leaf, joined_nodes, with_joined, none_in_front}
use Rattle.rt_lines.proofs.Same.{label_self}
use Rattle.rt_base.proofs.Options.{here_back, skipped, passed}
use Rattle.rt_tree.proofs.Alike.{at_node}

-- an edge of another label is here_back as before
pub kept_edge : (edges : List (Label × ℕ)) (l : Label) (to : ℕ) (k : Label) → label_eq k l ≡ false → lookup (label_eq k) (with_edge edges l to) ≡ lookup (label_eq k) edges
kept_edge [] l to k apart = passed (label_eq k l) to None apart
kept_edge (edge ∷ edges) l to k apart = by (is_lt (label_cmp l edge.0)) (kept_edge edges l to k apart)
  where
    by : (b : Bool) → lookup (label_eq k) (with_edge edges l to) ≡ lookup (label_eq k) edges → lookup (label_eq k) (cond b ((l, to) ∷ edge ∷ edges) (edge ∷ with_edge edges l to)) ≡ lookup (label_eq k) (edge ∷ edges)
    by true rest = passed (label_eq k l) to (lookup (label_eq k) (edge ∷ edges)) apart
    by false rest = ap (cond (label_eq k edge.0) (Some edge.1)) rest

-- the new edge is here_back
pub new_edge : (edges : List (Label × ℕ)) (l : Label) (to : ℕ) → lookup (label_eq l) edges ≡ None → lookup (label_eq l) (with_edge edges l to) ≡ Some to
new_edge [] l to none = here_back (label_eq l l) to None (label_self l)
new_edge (edge ∷ edges) l to none = by (is_lt (label_cmp l edge.0)) (new_edge edges l to (skipped (label_eq l edge.0) edge.1 (lookup (label_eq l) edges) none))
  where
    by : (b : Bool) → lookup (label_eq l) (with_edge edges l to) ≡ Some to → lookup (label_eq l) (cond b ((l, to) ∷ edge ∷ edges) (edge ∷ with_edge edges l to)) ≡ Some to
    by true rest = here_back (label_eq l l) to (lookup (label_eq l) (edge ∷ edges)) (label_self l)
    by false rest = over (label_eq l edge.0) none rest
      where
        over : (b : Bool) → cond b (Some edge.1) (lookup (label_eq l) edges) ≡ None → lookup (label_eq l) (with_edge edges l to) ≡ Some to → cond b (Some edge.1) (lookup (label_eq l) (with_edge edges l to)) ≡ Some to
        over true e rest = cc
        over false e rest = rest

-- what an edge leads to, it leads to when there is one edge more
wider_edge : (edges : List (Label × ℕ)) (l : Label) (to : ℕ) (k : Label) (m : ℕ) → lookup (label_eq l) edges ≡ None → lookup (label_eq k) edges ≡ Some m → lookup (label_eq k) (with_edge edges l to) ≡ Some m
wider_edge edges l to k m none e = by (cases_Bool (label_eq k l))
  where
    by : (label_eq k l ≡ true) ⊎ (label_eq k l ≡ false) → lookup (label_eq k) (with_edge edges l to) ≡ Some m
    by (inr apart) = kept_edge edges l to k apart ∙ e
    by (inl same) =
        let both : lookup (label_eq l) edges ≡ Some m = subst (λ j. lookup (label_eq j) edges ≡ Some m) (label_equal k l same) e in
        absurd (clash (lookup (label_eq l) edges) none both)
      where
        clash : (o : Option ℕ) → o ≡ None → o ≡ Some m → ⊥
        clash o p q = cc

pub at_set : (t : Nodes) (i : ℕ) (x : Node) → i < length t → slice_get (set t i x) i ≡ Some x
at_set t i x less = slice_get-get_or (set t i x) i (leaf 0 0) (subst (λ n. i < n) (sym (length-set t i x)) less) ∙ ap Some (get_or-set_same t i x (leaf 0 0) less)

off_set : (t : Nodes) (i j : ℕ) (x : Node) → j < length t → (j ≡ i → ⊥) → slice_get (set t i x) j ≡ slice_get t j
off_set t i j x less apart =
    slice_get-get_or (set t i x) j (leaf 0 0) (subst (λ n. j < n) (sym (length-set t i x)) less)
    ∙ (ap Some (get_or-set_other t i j x (leaf 0 0) apart) ∙ sym (slice_get-get_or t j (leaf 0 0) less))

kept_step : (t : Nodes) (from : ℕ) (l : Label) (to : ℕ) → from < length t → step_of t from l ≡ None → (n : ℕ) (k : Label) (m : ℕ) → step_of t n k ≡ Some m → step_of (joined t from l to) n k ≡ Some m
kept_step t from l to less none n k m e = by (cases_eq n from)
  where
    inside : n < length t
    inside = let at = then_some (edge_of k) (slice_get t n) m e in slice_get_within t n at.0 at.1

    by : (n ≡ from) ⊎ (n ≡ from → ⊥) → step_of (joined t from l to) n k ≡ Some m
    by (inr apart) = ap (option_and_then (edge_of k)) (off_set t from n (longer_node (node_at t from) l to) inside apart) ∙ e
    by (inl same) =
        let was : lookup (label_eq k) (node_at t from).edges ≡ Some m = sym (at_node t from k less) ∙ subst (λ i. step_of t i k ≡ Some m) same e in
        let free : lookup (label_eq l) (node_at t from).edges ≡ None = sym (at_node t from l less) ∙ none in
        subst (λ i. step_of (joined t from l to) i k ≡ Some m) (sym same)
        (ap (option_and_then (edge_of k)) (at_set t from (longer_node (node_at t from) l to) less) ∙ wider_edge (node_at t from).edges l to k m free was)

pub new_step : (t : Nodes) (from : ℕ) (l : Label) (to : ℕ) → from < length t → step_of t from l ≡ None → step_of (joined t from l to) from l ≡ Some to
new_step t from l to less none =
    ap (option_and_then (edge_of l)) (at_set t from (longer_node (node_at t from) l to) less) ∙ new_edge (node_at t from).edges l to (sym (at_node t from l less) ∙ none)

-- words lead where they led, if edges do
kept_walk : (a b : Nodes) → ((n : ℕ) (k : Label) (m : ℕ) → step_of a n k ≡ Some m → step_of b n k ≡ Some m) → (n : ℕ) (w : List Label) (m : ℕ) → walk a n w ≡ Some m → walk b n w ≡ Some m
kept_walk a b kept n [] m e = e
kept_walk a b kept n (l ∷ w) m e =
    let at = then_some (λ k. walk a k w) (step_of a n l) m e in
    ap (option_and_then (λ k. walk b k w)) (kept n l at.0 at.1) ∙ kept_walk a b kept at.0 w m at.2

kept_reached : (a b : Nodes) → ((n : ℕ) (k : Label) (m : ℕ) → step_of a n k ≡ Some m → step_of b n k ≡ Some m) → (n : ℕ) → IsReached a n → IsReached b n
kept_reached a b kept n h = (h.0, kept_walk a b kept 0 h.0 n h.1)

abbrev pub AreReached : Nodes → Type 0
AreReached t = (n : ℕ) → n < length t → IsReached t n

pub joined_reached : (t : Nodes) (from : ℕ) (l : Label) (to : ℕ) → from < length t → step_of t from l ≡ None → AreReached t → AreReached (joined t from l to)
joined_reached t from l to less none all n inside =
    kept_reached t (joined t from l to) (kept_step t from l to less none) n (all n (subst (λ k. n < k) (length-set t from (longer_node (node_at t from) l to)) inside))

longer_step : (t more : Nodes) (n : ℕ) (k : Label) (m : ℕ) → step_of t n k ≡ Some m → step_of (t ++ more) n k ≡ Some m
longer_step t more n k m e =
    let at = then_some (edge_of k) (slice_get t n) m e in
    ap (option_and_then (edge_of k)) (get-front t more n (slice_get_within t n at.0 at.1)) ∙ e

-- one node more, with an edge to it from a node that is reached
pub grown_reached : (t : Nodes) (from : ℕ) (l : Label) (x : Node) → from < length t → step_of (t ++ x ∷ []) from l ≡ None → AreReached t → AreReached (joined (t ++ x ∷ []) from l (length t))
grown_reached t from l x less none all n inside = by (cases n (length t) within)
  where
    longer : Nodes
    longer = t ++ x ∷ []

    more : length (t ++ x ∷ []) ≡ length t + 1
    more = length-append t (x ∷ [])

    from_inside : from < length (t ++ x ∷ [])
    from_inside = let e = length-append t (x ∷ []) in omega arith

    within : n ≤ length t
    within = let e = length-set (t ++ x ∷ []) from (longer_node (node_at (t ++ x ∷ []) from) l (length t)) in let f = length-append t (x ∷ []) in omega arith

    cases : (i j : ℕ) → i ≤ j → (i < j) ⊎ (j ≡ i)
    cases i j le = search (arith)

    steps : (i : ℕ) (k : Label) (m : ℕ) → step_of t i k ≡ Some m → step_of (joined (t ++ x ∷ []) from l (length t)) i k ≡ Some m
    steps i k m e = kept_step (t ++ x ∷ []) from l (length t) from_inside none i k m (longer_step t (x ∷ []) i k m e)

    by : (n < length t) ⊎ (length t ≡ n) → IsReached (joined (t ++ x ∷ []) from l (length t)) n
    by (inl old) = kept_reached t (joined (t ++ x ∷ []) from l (length t)) steps n (all n old)
    by (inr new) =
        let h = kept_reached t (joined (t ++ x ∷ []) from l (length t)) steps from (all from less) in
        subst (IsReached (joined (t ++ x ∷ []) from l (length t))) new
        (h.0 ++ l ∷ [], walk_on (joined (t ++ x ∷ []) from l (length t)) 0 h.0 from l (length t) h.1 (new_step (t ++ x ∷ []) from l (length t) from_inside none))

-- with the edge, or as it was for out of memory
pub edge_or_same : (t : Nodes) (from : ℕ) (l : Label) (to : ℕ) (node : Node) → IsReachedTree t → from < length t → IsLabel l → to < length t → step_of t from l ≡ None → (node ≡ longer_node (node_at t from) l to) ⊎ (node ≡ node_at t from) → IsReachedTree (set t from node)
edge_or_same t from l to node good less label less' none (inl e) =
    subst (λ n. IsReachedTree (set t from n)) (sym e) (record { whole = with_joined t from l to good.whole less label less' none; reached = joined_reached t from l to less none good.reached })
edge_or_same t from l to node good less label less' none (inr e) = subst IsReachedTree (sym (ap (set t from) e ∙ set-get_or t from (leaf 0 0))) good

pub graph_or_same : (t : Nodes) (from : ℕ) (l : Label) (to : ℕ) (node : Node) → IsGraph t → from < length t → IsLabel l → to < length t → step_of t from l ≡ None → (node ≡ longer_node (node_at t from) l to) ⊎ (node ≡ node_at t from) → IsGraph (set t from node)
graph_or_same t from l to node good less label less' none (inl e) =
    subst (λ n. IsGraph (set t from n)) (sym e)
    (record { numbered = subst (λ n. n < 2 ^ 32) (sym (length-set t from (longer_node (node_at t from) l to))) good.numbered; each = joined_nodes t from l to good.each less label less' none })
graph_or_same t from l to node good less label less' none (inr e) = subst IsGraph (sym (ap (set t from) e ∙ set-get_or t from (leaf 0 0))) good

-- one node more, with an edge to it
pub grown_tree : (t : Nodes) (from : ℕ) (l : Label) (low up : ℕ) → IsReachedTree t → length t + 1 < 2 ^ 32 → from < length t → IsLabel l → step_of t from l ≡ None → IsReachedTree (joined (t ++ leaf low up ∷ []) from l (length t))
grown_tree t from l low up good room less label none =
    let more : length (t ++ leaf low up ∷ []) ≡ length t + 1 = length-append t (leaf low up ∷ []) in
    let free : step_of (t ++ leaf low up ∷ []) from l ≡ None = none_in_front t (leaf low up ∷ []) from l less none in
    record {
      whole = with_joined (t ++ leaf low up ∷ []) from l (length t) (with_leaf t low up good.whole room) (omega arith) label (omega arith) free;
      reached = grown_reached t from l (leaf low up) less free good.reached;
    }

-- without the node that was added
take_front : (t : Nodes) (x : Node) → take (length t) (t ++ x ∷ []) ≡ t
take_front [] x = refl
take_front (y ∷ t) x = ap (λ r. y ∷ r) (take_front t x)

pub popped : (t items left : Nodes) (x now : Node) (from n : ℕ) → items ≡ t ++ x ∷ [] → now ≡ node_at items from → n ≡ length items → left ≡ take (n - 1) (set items from now) → left ≡ t
popped t items left x now from n e same count rest =
    let more : length (t ++ x ∷ []) ≡ length t + 1 = length-append t (x ∷ []) in
    let len : length items ≡ length (t ++ x ∷ []) = ap length e in
    let m : n - 1 ≡ length t = omega arith in
    let back : set items from now ≡ items = ap (set items from) same ∙ set-get_or items from (leaf 0 0) in
    rest ∙ (ap (λ k. take k (set items from now)) m ∙ (ap (take (length t)) (back ∙ e) ∙ take_front t x))

pub joined_length : (t : Nodes) (from : ℕ) (l : Label) (to : ℕ) → length (joined t from l to) ≡ length t
joined_length t from l to = length-set t from (longer_node (node_at t from) l to)
