use Rattle.std.proofs.Common.{◌≡◌, Some, drop}
use Rattle.rt_shape.specs.Graphs.{Graph, walk, node_of}
use Rattle.rt_shape.proofs.walking.walk.Given as goal

abbrev pub invariant-loop-label : goal.invariant-loop-label
invariant-loop-label l =
    let graph : Graph = record { count = 0; bases = l.bases.entries; edges = l.edges.entries } in
    (l.label-items ≡ l.x.word) × (walk graph.edges (Some l.node) (drop l.label-index l.x.word) ≡ node_of graph l.x)
