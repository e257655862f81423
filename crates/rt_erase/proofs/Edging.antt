-- Nodes, marks and steps of graphs with one edge more.
use Rattle.std.proofs.Common.{◌≡◌, ℕ, zero, suc, ◌⊎◌, inl, inr, ◌<◌, Bool, true, false, cond, Option, Some, None, List, [], ◌∷◌, length, refl, sym, ap, subst, ◌∙◌}
use Rattle.std.specs.Map.{lookup}
use Rattle.std.specs.Ordering.{is_lt}
use Rattle.std.proofs.lemmas.Bool.{cases_eq, cond-false, cond-true}
use Rattle.std.proofs.lemmas.List.{length-set, get_or-set_same, get_or-set_other}
use Rattle.rt_lines.specs.declared.label.Label.{Label}
use Rattle.rt_lines.specs.Equality.{label_eq}
use Rattle.rt_lines.proofs.Equal.{label_equal}
use Rattle.rt_tree.specs.Labels.{label_cmp}
use Rattle.rt_tree.specs.Trees.{Node, Nodes, leaf, step_of, marks_of, node_at, with_edge, longer_node, joined}
use Rattle.rt_lines.proofs.Same.{label_self}
use Rattle.rt_base.proofs.Options.{skipped}
use Rattle.rt_tree.proofs.Reaching.{kept_edge, new_edge}

-- a step is an edge of the node
pub at_node : (t : Nodes) (n : ℕ) (l : Label) → step_of t n l ≡ lookup (label_eq l) (node_at t n).edges
at_node [] n l = refl
at_node (x ∷ t) zero l = refl
at_node (x ∷ t) (suc n) l = at_node t n l

pub same_step : (old new : Nodes) (n : ℕ) (l : Label) → node_at new n ≡ node_at old n → step_of new n l ≡ step_of old n l
same_step old new n l e = at_node new n l ∙ (ap (λ (node : Node). lookup (label_eq l) node.edges) e ∙ sym (at_node old n l))

-- other nodes are as they were
pub joined_at : (t : Nodes) (from : ℕ) (l : Label) (to n : ℕ) → (n ≡ from → ⊥) → node_at (joined t from l to) n ≡ node_at t n
joined_at t from l to n other = get_or-set_other t from n (longer_node (node_at t from) l to) (leaf 0 0) other

joined_here : (t : Nodes) (from : ℕ) (l : Label) (to : ℕ) → from < length t → node_at (joined t from l to) from ≡ longer_node (node_at t from) l to
joined_here t from l to less = get_or-set_same t from (longer_node (node_at t from) l to) (leaf 0 0) less

pub joined_marks : (t : Nodes) (from : ℕ) (l : Label) (to n : ℕ) → from < length t → marks_of (node_at (joined t from l to) n) ≡ marks_of (node_at t n)
joined_marks t from l to n less = by (cases_eq n from)
  where
    by : (n ≡ from) ⊎ (n ≡ from → ⊥) → marks_of (node_at (joined t from l to) n) ≡ marks_of (node_at t n)
    by (inr other) = ap marks_of (joined_at t from l to n other)
    by (inl same) = subst (λ i. marks_of (node_at (joined t from l to) i) ≡ marks_of (node_at t i)) (sym same) (ap marks_of (joined_here t from l to less))

pub joined_other : (t : Nodes) (from : ℕ) (l : Label) (to : ℕ) (k : Label) → from < length t → (k ≡ l → ⊥) → step_of (joined t from l to) from k ≡ step_of t from k
joined_other t from l to k less other =
    at_node (joined t from l to) from k
    ∙ (ap (λ (node : Node). lookup (label_eq k) node.edges) (joined_here t from l to less) ∙ (kept_edge (node_at t from).edges l to k (unlike (label_eq k l) refl) ∙ sym (at_node t from k)))
  where
    unlike : (b : Bool) → label_eq k l ≡ b → label_eq k l ≡ false
    unlike true e = absurd (other (label_equal k l e))
    unlike false e = e
