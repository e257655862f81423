-- Steps and marks of trees with one edge more.
use Rattle.std.proofs.Common.{◌≡◌, ℕ, zero, suc, ◌⊎◌, inl, inr, ◌+◌, ◌<◌, ◌≤◌, Bool, true, false, Some, None, [], ◌∷◌, ◌++◌, length, set, refl, sym, ap, subst, ◌∙◌, arith, length-append}
use Rattle.std.specs.List.{slice_get}
use Rattle.std.specs.Option.{option_and_then}
use Rattle.std.proofs.lemmas.Bool.{cases_eq}
use Rattle.std.proofs.lemmas.List.{length-set, get_or-set_same, get_or-set_other, get_or_append_left}
use Rattle.std.proofs.Math.Seq.{get_or-append_seam}
use Rattle.std.proofs.lemmas.Option.{slice_get-get_or, slice_get_past}
use Rattle.rt_lines.specs.declared.label.Label.{Label}
use Rattle.rt_lines.specs.Equality.{label_eq}
use Rattle.rt_lines.proofs.Equal.{label_equal}
use Rattle.rt_tree.specs.Trees.{Node, Nodes, leaf, edge_of, step_of, marks_of, node_at, longer_node, joined, grown}
use Rattle.rt_tree.proofs.Growing.{none_in_front}
use Rattle.rt_tree.proofs.Reaching.{joined_length, kept_edge, at_set, new_step}
use Rattle.rt_tree.proofs.Alike.{at_node}

off_set : (t : Nodes) (i j : ℕ) (x : Node) → (j ≡ i → ⊥) → slice_get (set t i x) j ≡ slice_get t j
off_set t i j x apart = by (order j (length t))
  where
    order : (a b : ℕ) → (a < b) ⊎ (b ≤ a)
    order a b = search (arith)

    by : (j < length t) ⊎ (length t ≤ j) → slice_get (set t i x) j ≡ slice_get t j
    by (inl less) =
        slice_get-get_or (set t i x) j (leaf 0 0) (subst (λ n. j < n) (sym (length-set t i x)) less)
        ∙ (ap Some (get_or-set_other t i j x (leaf 0 0) apart) ∙ sym (slice_get-get_or t j (leaf 0 0) less))
    by (inr past) = slice_get_past (set t i x) j (subst (λ n. n ≤ j) (sym (length-set t i x)) past) ∙ sym (slice_get_past t j past)

pub joined_other : (t : Nodes) (from : ℕ) (l : Label) (to : ℕ) → from < length t → (n : ℕ) (k : Label) → ((n ≡ from) × (k ≡ l) → ⊥) → step_of (joined t from l to) n k ≡ step_of t n k
joined_other t from l to less n k apart = by (cases_eq n from)
  where
    unlike : (b : Bool) → label_eq k l ≡ b → n ≡ from → label_eq k l ≡ false
    unlike true e f = absurd (apart (f, label_equal k l e))
    unlike false e f = e

    by : (n ≡ from) ⊎ (n ≡ from → ⊥) → step_of (joined t from l to) n k ≡ step_of t n k
    by (inr other) = ap (option_and_then (edge_of k)) (off_set t from n (longer_node (node_at t from) l to) other)
    by (inl same) =
        subst (λ i. step_of (joined t from l to) i k ≡ step_of t i k) (sym same)
        (ap (option_and_then (edge_of k)) (at_set t from (longer_node (node_at t from) l to) less) ∙ (kept_edge (node_at t from).edges l to k (unlike (label_eq k l) refl same) ∙ sym (at_node t from k less)))

pub joined_marks : (t : Nodes) (from : ℕ) (l : Label) (to : ℕ) → from < length t → (n : ℕ) → marks_of (node_at (joined t from l to) n) ≡ marks_of (node_at t n)
joined_marks t from l to less n = by (cases_eq n from)
  where
    by : (n ≡ from) ⊎ (n ≡ from → ⊥) → marks_of (node_at (joined t from l to) n) ≡ marks_of (node_at t n)
    by (inr other) = ap marks_of (get_or-set_other t from n (longer_node (node_at t from) l to) (leaf 0 0) other)
    by (inl same) =
        subst (λ i. marks_of (node_at (joined t from l to) i) ≡ marks_of (node_at t i)) (sym same)
        (ap marks_of (get_or-set_same t from (longer_node (node_at t from) l to) (leaf 0 0) less))

leaf_step : (t : Nodes) (low up n : ℕ) (k : Label) → step_of (t ++ leaf low up ∷ []) n k ≡ step_of t n k
leaf_step [] low up zero k = refl
leaf_step [] low up (suc n) k = refl
leaf_step (x ∷ t) low up zero k = refl
leaf_step (x ∷ t) low up (suc n) k = leaf_step t low up n k

pub leaf_length : (t : Nodes) (low up : ℕ) → length (t ++ leaf low up ∷ []) ≡ length t + 1
leaf_length t low up = length-append t (leaf low up ∷ [])

pub grown_length : (t : Nodes) (from : ℕ) (l : Label) (low up : ℕ) → length (grown t from l low up) ≡ length t + 1
grown_length t from l low up = joined_length (t ++ leaf low up ∷ []) from l (length t) ∙ leaf_length t low up

pub grown_same : (t : Nodes) (from : ℕ) (l : Label) (low up : ℕ) → from < length t → step_of t from l ≡ None → step_of (grown t from l low up) from l ≡ Some (length t)
grown_same t from l low up less none =
    new_step (t ++ leaf low up ∷ []) from l (length t) (let e = leaf_length t low up in omega arith) (none_in_front t (leaf low up ∷ []) from l less none)

pub grown_other : (t : Nodes) (from : ℕ) (l : Label) (low up : ℕ) → from < length t → (n : ℕ) (k : Label) → ((n ≡ from) × (k ≡ l) → ⊥) → step_of (grown t from l low up) n k ≡ step_of t n k
grown_other t from l low up less n k apart =
    joined_other (t ++ leaf low up ∷ []) from l (length t) (let e = leaf_length t low up in omega arith) n k apart ∙ leaf_step t low up n k

pub grown_marks : (t : Nodes) (from : ℕ) (l : Label) (low up : ℕ) → from < length t → (n : ℕ) → n < length t → marks_of (node_at (grown t from l low up) n) ≡ marks_of (node_at t n)
grown_marks t from l low up less n inside =
    joined_marks (t ++ leaf low up ∷ []) from l (length t) (let e = leaf_length t low up in omega arith) n ∙ ap marks_of (get_or_append_left t (leaf low up ∷ []) (leaf 0 0) n inside)

pub grown_new : (t : Nodes) (from : ℕ) (l : Label) (low up : ℕ) → from < length t → marks_of (node_at (grown t from l low up) (length t)) ≡ (low, up)
grown_new t from l low up less =
    joined_marks (t ++ leaf low up ∷ []) from l (length t) (let e = leaf_length t low up in omega arith) (length t) ∙ ap marks_of (get_or-append_seam t (leaf low up) [] (leaf 0 0))
