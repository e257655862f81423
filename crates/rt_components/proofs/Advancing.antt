-- An edge of a node that a walk has followed.
use Rattle.std.proofs.Common.{◌≡◌, ℕ, zero, suc, ◌+◌, ◌<◌, ◌≤◌, ◌⊎◌, inl, inr, List, [], ◌∷◌, length, slice_index, set, Contains, sym, ap, subst, ◌∙◌, arith}
use Rattle.std.proofs.lemmas.Bool.{cases_eq}
use Rattle.std.proofs.lemmas.List.{get_or-set_same, get_or-set_other, length-set}
use Rattle.rt_components.specs.declared.walk.State.{State}
use Rattle.rt_components.specs.declared.walk.State.TheVariants.{Unseen, OnPath, InClass}
use Rattle.rt_components.specs.Graphs.{successors}
use Rattle.rt_components.specs.Inside.Walks.{state_of, IsMet, LeadsOn, IsSpent, IsPath, left}
use Rattle.rt_base.proofs.Numbers.{before_or}

pub advanced : (graph : List (List ℕ)) (state : List State) (followed path starts pending : List ℕ) → IsPath graph state followed path starts pending → (node edge to : ℕ) → node < length graph → (state_of state node ≡ Unseen → ⊥) →
    slice_index followed node ≡ edge → slice_index (successors graph node) edge ≡ to → ((g : ℕ) × (state_of state to ≡ InClass g)) ⊎ ((j : ℕ) × (state_of state to ≡ OnPath j) × ((s : ℕ) → Contains starts s → s ≤ j)) →
    IsPath graph state (set followed node (edge + 1)) path starts pending
advanced graph state followed path starts pending was node edge to within seen next leads_to met = record {
  state_each = was.state_each;
  followed_each = length-set followed node (edge + 1) ∙ was.followed_each;
  unseen = λ a e. other a (λ f. seen (sym (ap (state_of state) f) ∙ e)) ∙ was.unseen a e;
  place_of = was.place_of;
  node_at = was.node_at;
  starts_rise = was.starts_rise;
  starts_pending = was.starts_pending;
  pending_rise = was.pending_rise;
  pending_in = was.pending_in;
  begun = was.begun;
  spent = λ i less absent. let more = grows (slice_index path i) (cases_eq (slice_index path i) node) in let all : IsSpent graph followed (slice_index path i) = was.spent i less absent in omega arith;
  leads = λ i less. leads i (slice_index path i) (was.leads i less) (cases_eq (slice_index path i) node);
  reached = was.reached;
}
  where
    same : slice_index (set followed node (edge + 1)) node ≡ edge + 1
    same = let less : node < length followed = omega (arith, was.followed_each) in get_or-set_same followed node (edge + 1) 0 less

    other : (a : ℕ) → (a ≡ node → ⊥) → slice_index (set followed node (edge + 1)) a ≡ slice_index followed a
    other a ne = get_or-set_other followed node a (edge + 1) 0 ne

    grows : (a : ℕ) → (a ≡ node) ⊎ (a ≡ node → ⊥) → slice_index followed a ≤ slice_index (set followed node (edge + 1)) a
    grows a (inl e) =
        let now : slice_index (set followed node (edge + 1)) a ≡ edge + 1 = ap (slice_index (set followed node (edge + 1))) e ∙ same in
        let before : slice_index followed a ≡ edge = ap (slice_index followed) e ∙ next in
        omega arith
    grows a (inr ne) = let now = other a ne in omega arith

    met_at : (i : ℕ) → IsMet state starts i to
    met_at i = by met
      where
        by : ((g : ℕ) × (state_of state to ≡ InClass g)) ⊎ ((j : ℕ) × (state_of state to ≡ OnPath j) × ((s : ℕ) → Contains starts s → s ≤ j)) → IsMet state starts i to
        by (inl m) = inl m
        by (inr (j, e, all)) = inr (j, e, λ s c le. all s c)

    leads : (i a : ℕ) → LeadsOn graph state followed starts i a → (a ≡ node) ⊎ (a ≡ node → ⊥) → LeadsOn graph state (set followed node (edge + 1)) starts i a
    leads i a old (inr ne) = λ e f g. old e (subst (λ n. e < n) (other a ne) f) g
    leads i a old (inl h) = λ e f g. by e g (before_or edge e (subst (λ n. e < n) (ap (slice_index (set followed node (edge + 1))) h ∙ same) f))
      where
        by : (e : ℕ) → e < length (successors graph a) → (e < edge) ⊎ (e ≡ edge) → IsMet state starts i (slice_index (successors graph a) e)
        by e g (inl less) = old e (subst (λ n. e < n) (sym (ap (slice_index followed) h ∙ next)) less) g
        by e g (inr k) = subst (IsMet state starts i) (sym (ap (slice_index (successors graph a)) k ∙ ap (λ b. slice_index (successors graph b) edge) h ∙ leads_to)) (met_at i)

-- one edge less is left to follow
pub left-set : (graph : List (List ℕ)) (followed : List ℕ) (node edge : ℕ) → slice_index followed node ≡ edge → edge < length (successors graph node) → node < length followed → left graph (set followed node (edge + 1)) + 1 ≡ left graph followed
left-set [] followed node edge next less within = absurd (omega arith)
left-set (nodes ∷ graph) [] node edge next less within = absurd (omega arith)
left-set (nodes ∷ graph) (n ∷ followed) zero edge next less within = omega arith
left-set (nodes ∷ graph) (n ∷ followed) (suc node) edge next less within = let rest = left-set graph followed node edge next less (omega arith) in omega arith
