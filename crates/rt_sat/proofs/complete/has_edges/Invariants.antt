use Rattle.std.proofs.Common.{ℕ, ◌<◌, ◌≡◌, Some, slice_get}
use Rattle.rt_sat.specs.declared.state.Edge.{Edge}
use Rattle.rt_sat.specs.Inside.Checks.{HasEdge}
use Rattle.rt_sat.proofs.complete.has_edges.Given as goal

abbrev pub invariant-loop-edge : goal.invariant-loop-edge
invariant-loop-edge l = (e : Edge) (j : ℕ) → j < l.edge-index → slice_get l.edges j ≡ Some e → HasEdge l.family e
