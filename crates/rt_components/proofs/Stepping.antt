-- The last place of a walk that is pending.
use Rattle.std.specs.Prelude.{slice_get}
use Rattle.std.proofs.lemmas.Bool.{cases_lt}
use Rattle.std.proofs.lemmas.Option.{slice_get-get_or}
use Rattle.std.proofs.lemmas.List.{nil_from_length}
use Rattle.std.proofs.Common.{◌≡◌, ℕ, ◌-◌, ◌<◌, ◌≤◌, ◌⊎◌, inl, inr, None, Some, List, [], length, slice_index, Contains, sym, ap, subst, ◌∙◌, arith}
use Rattle.rt_components.specs.declared.walk.Walk.{Walk}
use Rattle.rt_components.specs.declared.walk.State.TheVariants.{Unseen}
use Rattle.rt_components.specs.Graphs.{successors, HasEdge}
use Rattle.rt_components.specs.Groups.{Reaches}
use Rattle.rt_components.specs.Inside.Walks.{state_of, IsWalk, MayReach, MayStep}
use Rattle.rt_components.proofs.Numbers.{place_in, contains_at, last_in, last_greatest}
use Rattle.rt_components.proofs.Reaching.{reaches_edge}
use Rattle.rt_components.proofs.Entering.{unseen_place}

module _ (graph : List (List ℕ)) (w : Walk) (place : ℕ) (may : MayStep graph w place) where
  pub on_path : place < length w.path.items
  on_path = may.is_walk.on_path.pending_in place (last_in w.pending.items place may.last)

  pub is_node : slice_index w.path.items place < length graph
  is_node = (may.is_walk.on_path.node_at place on_path).0

  pub is_seen : state_of w.state.items (slice_index w.path.items place) ≡ Unseen → ⊥
  is_seen e = unseen_place place (cc (e, (may.is_walk.on_path.node_at place on_path).1))

  -- all of the path reaches its node
  all_here : (i : ℕ) → i < length w.path.items → Reaches (HasEdge graph) (slice_index w.path.items i) (slice_index w.path.items place)
  all_here i less =
      let walk = may.is_walk.on_path in
      walk.reached i place less on_path (λ s c le. last_greatest w.pending.items place s walk.pending_rise may.last (walk.starts_pending s c))

  -- and so what an edge leads to
  pub may_reach : (edge to : ℕ) → edge < length (successors graph (slice_index w.path.items place)) → slice_index (successors graph (slice_index w.path.items place)) edge ≡ to → to < length graph → MayReach graph w to
  may_reach edge to less is within = record {
    is_walk = may.is_walk;
    within = within;
    all_reach = λ i l. reaches_edge (HasEdge graph) (all_here i l) (subst (Contains (successors graph (slice_index w.path.items place))) is (contains_at (successors graph (slice_index w.path.items place)) edge less));
  }

  -- what was read of an edge
  pub edge_read : (nodes : List ℕ) (node edge to : ℕ) → node ≡ slice_index w.path.items place → nodes ≡ successors graph node → edge < length nodes → to ≡ slice_index nodes edge →
      (edge < length (successors graph (slice_index w.path.items place))) × (slice_index (successors graph (slice_index w.path.items place)) edge ≡ to)
  edge_read nodes node edge to is all less at =
      let same : nodes ≡ successors graph (slice_index w.path.items place) = all ∙ ap (successors graph) is in
      (subst (λ xs. edge < length xs) same less, ap (λ xs. slice_index xs edge) (sym same) ∙ sym at)

-- with nothing pending the path is empty
pub path_empty : (graph : List (List ℕ)) (w : Walk) → IsWalk graph w → slice_get w.pending.items (length w.pending.items - 1) ≡ None → w.path.items ≡ []
path_empty graph w walk none = nil_from_length w.path.items (by (cases_lt 0 (length w.path.items)))
  where
    no_pending : (s : ℕ) → Contains w.pending.items s → ⊥
    no_pending s c =
        let place = place_in w.pending.items s c in
        let less : place.0 < length w.pending.items = place.1 in
        let found : slice_get w.pending.items (length w.pending.items - 1) ≡ Some (slice_index w.pending.items (length w.pending.items - 1)) = slice_get-get_or w.pending.items (length w.pending.items - 1) 0 (omega arith) in
        none_some (slice_index w.pending.items (length w.pending.items - 1)) (sym none ∙ found)
      where
        none_some : (x : ℕ) → None ≡ Some x → ⊥
        none_some x e = cc

    by : (0 < length w.path.items) ⊎ (length w.path.items ≤ 0) → length w.path.items ≡ 0
    by (inl less) = let first = walk.on_path.begun 0 less in absurd (no_pending first.0 (walk.on_path.starts_pending first.0 first.1))
    by (inr le) = omega arith
