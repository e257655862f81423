use Rattle.std.proofs.Common.{◌≡◌, ℕ, ◌+◌, false, IsTrue, length, slice_index_or}
use Rattle.rt_flow.specs.Bodies.{IsBody, Steps}
use Rattle.rt_flow.proofs.blocks.linked.Given as goal

abbrev pub invariant-loop-from : goal.invariant-loop-from
invariant-loop-from l = record {
  each : length l.joined.items ≡ l.graph.sites;
  items : l.from-items ≡ l.graph.edges;
  good : IsBody l.graph;
  after : (t : ℕ) → IsTrue (slice_index_or l.joined.items t false) → (s : ℕ) × (s + 1 ≡ t) × Steps l.graph s t;
}
