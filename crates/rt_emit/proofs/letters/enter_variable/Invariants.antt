use Rattle.std.proofs.Common.{◌≡◌, ℕ, Some, drop}
use Rattle.rt_shape.specs.Graphs.{node_of, walk}
use Rattle.rt_shape.proofs.Fronts.{front_of}
use Rattle.rt_emit.specs.Inside.Letters.{with_edges, AreAfter, AreEdges, AreKept}
use Rattle.rt_emit.proofs.letters.enter_variable.Given as goal

abbrev pub invariant-loop-label : goal.invariant-loop-label
invariant-loop-label l = record {
  letters : l.label-items ≡ l.x.word;
  good : AreEdges l.shape l.edges.entries;
  after : AreAfter l.edges.entries l.letters;
  kept : AreKept l.fn.edges.entries l.edges.entries;
  rest : (n : ℕ) × (walk l.shape.edges (Some l.node) (drop l.label-index l.label-items) ≡ Some n);
  walked : node_of (with_edges l.shape l.edges.entries) (front_of l.x l.label-index) ≡ Some l.node;
}
