use Rattle.std.proofs.Common.{◌≡◌, ℕ, ◌+◌, ◌⊎◌, ◌<◌, false, IsTrue, length, slice_index_or}
use Rattle.rt_flow.specs.Bodies.{IsBody}
use Rattle.rt_flow.proofs.blocks.part_others.Given as goal

abbrev pub invariant-loop-from : goal.invariant-loop-from
invariant-loop-from l = record {
  each : length l.joined.items ≡ length l.fn.joined.items;
  items : l.from-items ≡ l.graph.edges;
  good : IsBody l.graph;
  kept : (t : ℕ) → IsTrue (slice_index_or l.joined.items t false) → IsTrue (slice_index_or l.fn.joined.items t false);
  only : (k t : ℕ) → k < l.from-index → IsTrue (slice_index_or l.joined.items t false) → ((slice_index_or l.from-items k (0, 0)).0 + 1 ≡ t) ⊎ ((slice_index_or l.from-items k (0, 0)).1 ≡ t) → ((slice_index_or l.from-items k (0, 0)).0 + 1 ≡ t) × ((slice_index_or l.from-items k (0, 0)).1 ≡ t);
}
