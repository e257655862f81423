-- Components of a walk made one.
use Rattle.std.proofs.Common.{◌≡◌, ℕ, ◌<◌, ◌≤◌, ◌⊎◌, inl, inr, List, [], ◌∷◌, length, slice_index, Contains, arith}
use Rattle.std.proofs.lemmas.Bool.{cases_lt}
use Rattle.rt_components.specs.declared.walk.State.{State}
use Rattle.rt_components.specs.Graphs.{HasEdge}
use Rattle.rt_components.specs.Groups.{Reaches}
use Rattle.rt_components.specs.Inside.Walks.{IsNotBefore, IsMet, IsFrontUpTo, IsPath}
use Rattle.rt_components.proofs.Numbers.{cons_here, cons_there, cons_cases}
use Rattle.rt_components.proofs.Reaching.{reaches_on}
use Rattle.rt_base.proofs.Lists.{Contains-none}

-- either the component of the second place is no earlier one, or some component begins between the two
not_before : (starts : List ℕ) (i j : ℕ) → IsNotBefore starts i j ⊎ ((s : ℕ) × Contains starts s × (s ≤ i) × (j < s))
not_before [] i j = inl (λ s c le. absurd (Contains-none s c))
not_before (x ∷ starts) i j = by (not_before starts i j) (cases_lt j x) (cases_lt i x)
  where
    by : IsNotBefore starts i j ⊎ ((s : ℕ) × Contains starts s × (s ≤ i) × (j < s)) → (j < x) ⊎ (x ≤ j) → (i < x) ⊎ (x ≤ i) → IsNotBefore (x ∷ starts) i j ⊎ ((s : ℕ) × Contains (x ∷ starts) s × (s ≤ i) × (j < s))
    by (inr (s, c, le, less)) h k = inr (s, cons_there x starts s c, le, less)
    by (inl nb) (inr h) k = inl (λ s c le. at s le (cons_cases x starts s c))
      where
        at : (s : ℕ) → s ≤ i → (x ≡ s) ⊎ Contains starts s → s ≤ j
        at s le (inl e) = omega arith
        at s le (inr d) = nb s d le
    by (inl nb) (inl h) (inl k) = inl (λ s c le. at s le (cons_cases x starts s c))
      where
        at : (s : ℕ) → s ≤ i → (x ≡ s) ⊎ Contains starts s → s ≤ j
        at s le (inl e) = absurd (omega arith)
        at s le (inr d) = nb s d le
    by (inl nb) (inl h) (inr k) = inr (x, cons_here x starts, k, h)

pub merged : (graph : List (List ℕ)) (state : List State) (followed path starts pending : List ℕ) → IsPath graph state followed path starts pending → (place : ℕ) → place < length path →
    ((i : ℕ) → i < length path → Reaches (HasEdge graph) (slice_index path i) (slice_index path place)) → (after : List ℕ) → IsFrontUpTo starts after place → IsPath graph state followed path after pending
merged graph state followed path starts pending was place within reach after front = record {
  state_each = was.state_each;
  followed_each = was.followed_each;
  unseen = was.unseen;
  place_of = was.place_of;
  node_at = was.node_at;
  starts_rise = front.rises;
  starts_pending = λ s c. was.starts_pending s (front.only s c).0;
  pending_rise = was.pending_rise;
  pending_in = was.pending_in;
  begun = λ i less. begun i (was.begun i less);
  spent = was.spent;
  leads = λ i less e f g. met i _ (was.leads i less e f g);
  reached = λ i j less less' nb. reached i j less less' nb (not_before starts place j);
}
  where
    met : (i a : ℕ) → IsMet state starts i a → IsMet state after i a
    met i a (inl m) = inl m
    met i a (inr (j, e, nb)) = inr (j, e, λ s c le. nb s (front.only s c).0 le)

    begun : (i : ℕ) → (s : ℕ) × Contains starts s × (s ≤ i) → (s : ℕ) × Contains after s × (s ≤ i)
    begun i (s, c, le) = by (cases_lt place s)
      where
        by : (place < s) ⊎ (s ≤ place) → (s : ℕ) × Contains after s × (s ≤ i)
        by (inl h) = let first = was.begun place within in (first.0, front.kept first.0 first.1 first.2, let low : first.0 ≤ place = first.2 in omega arith)
        by (inr h) = (s, front.kept s c h, le)

    reached : (i j : ℕ) → i < length path → j < length path → IsNotBefore after i j → IsNotBefore starts place j ⊎ ((s : ℕ) × Contains starts s × (s ≤ place) × (j < s)) → Reaches (HasEdge graph) (slice_index path i) (slice_index path j)
    reached i j less less' nb (inl on) = reaches_on (HasEdge graph) (reach i less) (was.reached place j within less' on)
    reached i j less less' nb (inr (s, c, le, above)) = was.reached i j less less' (λ t d low. at t d low (cases_lt place t))
      where
        at : (t : ℕ) → Contains starts t → t ≤ i → (place < t) ⊎ (t ≤ place) → t ≤ j
        at t d low (inl h) = let same : s ≤ j = nb s (front.kept s c le) (omega arith) in absurd (omega arith)
        at t d low (inr h) = nb t (front.kept t d h) low
